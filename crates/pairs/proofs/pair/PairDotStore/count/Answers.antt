use Rattle.std.proofs.Common.{◌≡◌, ◌-◌, length, sym, ap, ◌∙◌, arith}
use Rattle.stores.specs.Items.{count_part}
use Rattle.stores.proofs.Stays.{all_placed}
use Rattle.pairs.proofs.PairLaws.{count_low, count_high}
use Rattle.pairs.proofs.pair.PairDotStore.count.Goals as goal

pub returns-then-part-parts : goal.returns-then-part-parts
returns-then-part-parts g c =
    let t = c.args.self.now in
    let ka = g.A.DotStore.kinds in
    let n : c.part_count-parts.result ≡ length ka = c.part_count-parts.ensures in
    c.count.ensures ∙ sym (count_low (length ka) c.args.part (g.A.DotStore.entries t.first) (g.B.DotStore.entries t.second) (omega arith))

pub returns-else-part-parts : goal.returns-else-part-parts
returns-else-part-parts g c =
    let t = c.args.self.now in
    let ka = g.A.DotStore.kinds in
    let p = c.args.part in
    let xs = g.A.DotStore.entries t.first in
    let ys = g.B.DotStore.entries t.second in
    let n : c.part_count-parts.result ≡ length ka = c.part_count-parts.ensures in
    c.count-else-part-parts.ensures ∙ ap (λ j. count_part (p - j) ys) n
    ∙ sym (count_high (length ka) p xs ys (all_placed ka xs (g.A.DotStore.orderly t.first).proper) (omega arith))
