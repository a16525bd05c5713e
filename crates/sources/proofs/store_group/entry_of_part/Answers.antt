use Rattle.std.proofs.Common.{length, arith}
use Rattle.stores.proofs.Stays.{all_placed}
use Rattle.sources.proofs.Parts.{part_empty}
use Rattle.sources.proofs.store_group.entry_of_part.Goals as goal

pub returns-then-part-part_count : goal.returns-then-part-part_count
returns-then-part-part_count g c =
    let S = g.S.DotStore in
    let m = c.args.store.now in
    let k = c.part_count.ensures in
    part_empty (length S.kinds) (S.entries m) c.args.part c.args.position (all_placed S.kinds (S.entries m) (S.orderly m).proper) (omega arith)
