use Rattle.std.proofs.Common.{ap, ◌∙◌, arith}
use Rattle.std.specs.Option.{option_map}
use Rattle.reading.specs.Reading.{item_in}
use Rattle.records.specs.Records.{decoded}
use Rattle.sources.specs.Layouts.{record_in, entry_part}
use Rattle.sources.proofs.LaidOut.{laid_entry, no_entry}
use Rattle.sources.proofs.laid_group.LaidGroupGroupSource.entry_at.Goals as goal

pub returns-then-index-self : goal.returns-then-index-self
returns-then-index-self g c s = let b = c.args.self.now in no_entry (record_in (g.R.RecordList.bytes b.records)) b.entries b.runs s c.args.index (omega arith)

pub returns : goal.returns
returns g c s =
    let b = c.args.self.now in
    ap (option_map item_in) (c.read_entry.ensures ∙ ap (λ r. entry_part (decoded r)) c.nth_record.ensures)
    ∙ laid_entry (record_in (g.R.RecordList.bytes b.records)) b.entries b.runs s c.args.index (omega arith)
