use Rattle.std.proofs.Common.{◌++◌, arith, length-append}
use Rattle.std.proofs.lemmas.List.{length-take}
use Rattle.stores.specs.Sound.{most_parts}
use Rattle.pairs.proofs.pair.PairDotStore.part_count.Goals as goal

pub returns : goal.returns
returns g c =
    let l = length-append g.A.DotStore.kinds g.B.DotStore.kinds in
    let t = length-take most_parts (g.A.DotStore.kinds ++ g.B.DotStore.kinds) in
    let n = c.part_count.ensures in
    let m = c.part_count-2.ensures in
    let z = c.min.ensures in
    omega arith
