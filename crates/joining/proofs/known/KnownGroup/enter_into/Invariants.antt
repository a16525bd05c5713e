use Rattle.std.proofs.Common.{◌≡◌, ℕ, ◌≤◌, get_or, drop}
use Rattle.std.specs.List.{AllByRecursion}
use Rattle.contexts.specs.Contexts.{runs_of}
use Rattle.stores.specs.Items.{count_part}
use Rattle.stores.specs.Sound.{Proper}
use Rattle.joining.specs.Entering.{enter_all}
use Rattle.joining.proofs.known.KnownGroup.enter_into.Given as goal

abbrev pub invariant-loop-found : goal.invariant-loop-found
invariant-loop-found g l =
    let S = g.S.DotStore in
    let G = g.G.GroupSource in
    let it = l.found-iterator in
    let old = l.initial.store in
    let ys = (G.group l.self.group.now).items in
    let rs = runs_of l.context in
    (goal.iterator-loop-found g).can_next it × (goal.iterator-loop-found g).is_finite it
    × (it.group.now ≡ l.self.group.now) × (S.capacities l.store ≡ S.capacities old)
    × (G.legible l.self.group.now → AllByRecursion (Proper S.kinds) ys → ((p : ℕ) → count_part p (enter_all S.kinds rs (S.entries old) ys) ≤ get_or (S.capacities old) p 0)
    → enter_all S.kinds rs (S.entries l.store) (drop it.next ys) ≡ enter_all S.kinds rs (S.entries old) ys)
