use Rattle.std.proofs.Common.{◌≡◌, ◌-◌, length, sym, ◌∙◌, subst, arith}
use Rattle.std.specs.Option.{option_map}
use Rattle.stores.specs.Items.{entry_at, item_at}
use Rattle.stores.proofs.Stays.{all_placed}
use Rattle.pairs.proofs.PairLaws.{entry_low, entry_high}
use Rattle.pairs.proofs.pair.PairDotStore.entry.Goals as goal

pub returns-then-part-parts : goal.returns-then-part-parts
returns-then-part-parts g c =
    let t = c.args.self.now in
    let ka = g.A.DotStore.kinds in
    let n : c.part_count-parts.result ≡ length ka = c.part_count-parts.ensures in
    c.entry.ensures ∙ sym (entry_low (length ka) c.args.part (g.A.DotStore.entries t.first) (g.B.DotStore.entries t.second) c.args.position (omega arith))

pub returns-else-part-parts : goal.returns-else-part-parts
returns-else-part-parts g c =
    let t = c.args.self.now in
    let ka = g.A.DotStore.kinds in
    let p = c.args.part in
    let xs = g.A.DotStore.entries t.first in
    let ys = g.B.DotStore.entries t.second in
    let r = c.entry-else-part-parts.result in
    let n : c.part_count-parts.result ≡ length ka = c.part_count-parts.ensures in
    entry_high (length ka) p xs ys c.args.position (all_placed ka xs (g.A.DotStore.orderly t.first).proper) (omega arith) r
    (subst (λ j. option_map (item_at (p - j)) r ≡ entry_at (p - j) c.args.position ys) n c.entry-else-part-parts.ensures)
