use Rattle.std.proofs.Common.{◌≡◌, ◌-◌, length, get_or, sym, ap, ◌∙◌, arith}
use Rattle.pairs.proofs.PairLaws.{room_low, room_high}
use Rattle.pairs.proofs.pair.PairDotStore.capacity.Goals as goal

pub returns-then-part-parts : goal.returns-then-part-parts
returns-then-part-parts g c =
    let ka = g.A.DotStore.kinds in
    let t = c.args.self.now in
    let n : c.part_count-parts.result ≡ length ka = c.part_count-parts.ensures in
    let even = (g.A.DotStore.roomy t.first).even in
    let few = g.A.DotStore.parts.few in
    c.capacity.ensures ∙ sym (room_low (g.A.DotStore.capacities t.first) (g.B.DotStore.capacities t.second) c.args.part (omega arith) (omega arith))

pub returns : goal.returns
returns g c =
    let ka = g.A.DotStore.kinds in
    let t = c.args.self.now in
    let p = c.args.part in
    let ca = g.A.DotStore.capacities t.first in
    let cb = g.B.DotStore.capacities t.second in
    let n : c.part_count-parts.result ≡ length ka = c.part_count-parts.ensures in
    let even = (g.A.DotStore.roomy t.first).even in
    c.capacity-2.ensures ∙ ap (λ j. get_or cb (p - j) 0) n ∙ sym (room_high ca cb p (length ka) even (omega arith) c.if-part-ge-MOST_PARTS.false)
