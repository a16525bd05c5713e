use Rattle.std.proofs.Common.{◌≡◌, ◌+◌, ◌<◌, length, ap, ◌∙◌, arith}
use Rattle.std.specs.Option.{option_map}
use Rattle.stores.specs.Items.{item_at}
use Rattle.stores.proofs.Stays.{all_placed}
use Rattle.pairs.proofs.PairLaws.{found_first, found_second, found_none, found_part}
use Rattle.pairs.proofs.pair.PairDotStore.find.Goals as goal

pub returns-in-Some : goal.returns-in-Some
returns-in-Some g c =
    let t = c.args.self.now in
    found_first (length g.A.DotStore.kinds) c.args.dot _ (g.A.DotStore.entries t.first) (g.B.DotStore.entries t.second) c.in-Some.ensures

pub returns-in_err-part : goal.returns-in_err-part
returns-in_err-part g c =
    let t = c.args.self.now in
    ap (option_map (λ x. item_at x.0 x.1)) c.from_residual.ensures
    ∙ found_none (length g.A.DotStore.kinds) c.args.dot (g.A.DotStore.entries t.first) (g.B.DotStore.entries t.second) c.in_default.ensures c.in_err-part.ensures

pub overflow_add-result : goal.overflow_add-result
overflow_add-result g c =
    let t = c.args.self.now in
    let kb = g.B.DotStore.kinds in
    let ys = g.B.DotStore.entries t.second in
    let n = c.part_count.ensures in
    let few = g.A.DotStore.parts.few in
    let fewer = g.B.DotStore.parts.few in
    let h : c.in_ok-part.part < length kb = found_part (length kb) c.args.dot (item_at c.in_ok-part.part c.in_ok-part.entry) ys (all_placed kb ys (g.B.DotStore.orderly t.second).proper) c.in_ok-part.ensures in
    omega arith

pub returns : goal.returns
returns g c =
    let t = c.args.self.now in
    let n : c.part_count.result + c.in_ok-part.part ≡ length g.A.DotStore.kinds + c.in_ok-part.part = ap (λ m. m + c.in_ok-part.part) c.part_count.ensures in
    found_second (length g.A.DotStore.kinds) c.in_ok-part.part _ c.args.dot c.in_ok-part.entry (g.A.DotStore.entries t.first) (g.B.DotStore.entries t.second) c.in_default.ensures c.in_ok-part.ensures n
