use Rattle.std.proofs.Common.{arith}
use Rattle.sources.proofs.Filling.{record_entry, record_run, record_origin}
use Rattle.sources.proofs.writing.written_record.Goals as goal

pub returns-in-Some : goal.returns-in-Some
returns-in-Some g c s l = record_entry (g.G.GroupSource.group c.args.group.now) c.args.origin c.args.index c.in-Some.entry (c.in-Some.ensures s)

pub returns-in-Some-run_at : goal.returns-in-Some-run_at
returns-in-Some-run_at g c s l =
    let n = c.entry_count-entries.ensures s in
    let j = c.saturating_sub.ensures in
    record_run (g.G.GroupSource.group c.args.group.now) c.args.origin c.args.index c.saturating_sub.result c.in-Some-run_at.run' (c.in_default.ensures s) (omega arith) (c.in-Some-run_at.ensures s)

pub returns-in-None : goal.returns-in-None
returns-in-None g c s l =
    let n = c.entry_count-entries.ensures s in
    let j = c.saturating_sub.ensures in
    record_origin (g.G.GroupSource.group c.args.group.now) c.args.origin c.args.index c.saturating_sub.result (c.in_default.ensures s) (omega arith) (c.in-None.ensures s) l
