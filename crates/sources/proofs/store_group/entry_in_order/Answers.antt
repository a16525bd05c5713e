use Rattle.std.proofs.Common.{◌≡◌, ◌+◌, ◌-◌, length, sym, ap, ◌∙◌, arith}
use Rattle.std.specs.List.{slice_get}
use Rattle.stores.proofs.Stays.{all_placed}
use Rattle.sources.proofs.Parts.{from_part, from_none, from_end, in_this_part, in_later_part}
use Rattle.sources.proofs.store_group.entry_in_order.Goals as goal

pub loop-part-init : goal.loop-part-init
loop-part-init g c = ap (λ xs. slice_get xs c.args.index) (from_none (g.S.DotStore.entries c.args.store.now))

pub returns-then-left-count : goal.returns-then-left-count
returns-then-left-count g c =
    let S = g.S.DotStore in
    let m = c.args.store.now in
    let n = c.count-count.ensures in
    c.entry_of_part.ensures ∙ in_this_part (S.entries m) (S.orderly m).ascends c.loop-part.part c.loop-part.left (omega arith) ∙ c.loop-part.invariant

pub loop-part-preserved : goal.loop-part-preserved
loop-part-preserved g c =
    let S = g.S.DotStore in
    let m = c.args.store.now in
    let n = c.count-count.ensures in
    let p = c.loop-part.part in
    ap (λ k. slice_get (from_part (p + 1) (S.entries m)) (c.loop-part.left - k)) n ∙ in_later_part (S.entries m) (S.orderly m).ascends p c.loop-part.left (omega arith) ∙ c.loop-part.invariant

pub returns : goal.returns
returns g c =
    let S = g.S.DotStore in
    let m = c.args.store.now in
    let k = c.part_count-part-end.ensures in
    let e : length S.kinds ≡ c.loop-part.part = omega arith in
    sym (from_end (length S.kinds) (S.entries m) c.loop-part.left (all_placed S.kinds (S.entries m) (S.orderly m).proper)) ∙ ap (λ p. slice_get (from_part p (S.entries m)) c.loop-part.left) e ∙ c.loop-part.invariant
