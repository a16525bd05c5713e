use Rattle.sources.specs.Layouts.{record_in}
use Rattle.sources.proofs.LaidOut.{laid_entries}
use Rattle.sources.proofs.laid_group.LaidGroupGroupSource.entry_count.Goals as goal

pub returns : goal.returns
returns g c s = let b = c.args.self.now in laid_entries (record_in (g.R.RecordList.bytes b.records)) b.entries b.runs s
