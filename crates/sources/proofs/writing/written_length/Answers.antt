use Rattle.std.proofs.Common.{arith}
use Rattle.sources.proofs.writing.written_length.Goals as goal

pub returns : goal.returns
returns g c s =
    let w = g.G.GroupSource.writable c.args.group.now s in
    let entries = c.entry_count.ensures w.0 in
    let runs = c.run_count.ensures w.0 in
    let few = w.1 in
    omega arith
