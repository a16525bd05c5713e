use Rattle.std.proofs.Common.{ap, ◌∙◌, arith}
use Rattle.records.specs.Records.{decoded}
use Rattle.sources.specs.Layouts.{record_in, run_part}
use Rattle.sources.proofs.LaidOut.{laid_entries, laid_runs, laid_run, no_run}
use Rattle.sources.proofs.laid_group.LaidGroupGroupSource.run_at.Goals as goal

pub returns-then-index-self : goal.returns-then-index-self
returns-then-index-self g c s = let b = c.args.self.now in no_run (record_in (g.R.RecordList.bytes b.records)) b.entries b.runs s c.args.index (omega arith)

pub returns : goal.returns
returns g c s =
    let b = c.args.self.now in
    let f = record_in (g.R.RecordList.bytes b.records) in
    let sum = c.saturating_add-number.ensures in
    let e = laid_entries f b.entries b.runs s in
    let n = laid_runs f b.entries b.runs s in
    let fits = s.fits in
    c.read_run.ensures ∙ ap (λ r. run_part (decoded r)) c.nth_record.ensures
    ∙ laid_run f b.entries b.runs s c.args.index c.saturating_add-number.result (omega arith) (omega arith)
