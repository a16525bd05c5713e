use Rattle.std.proofs.Common.{◌≡◌, ℕ, drop, filter}
use Rattle.stores.specs.Items.{in_part}
use Rattle.joining.specs.Strikes.{remaining, Unstruck}
use Rattle.joining.proofs.Struck.{Free}
use Rattle.joining.proofs.known.KnownGroup.strike_from_part.Given as goal

abbrev pub invariant-loop-i : goal.invariant-loop-i
invariant-loop-i g l =
    let S = g.S.DotStore in
    let G = g.G.GroupSource in
    let old = l.initial.store in
    let h = G.group l.self.group.now in
    (S.capacities l.store ≡ S.capacities old)
    × (G.legible l.self.group.now → (remaining h (S.entries l.store) ≡ remaining h (S.entries old))
    × Free h (drop l.i (filter (in_part l.part) (S.entries l.store)))
    × ((q : ℕ) → Unstruck h q (S.entries old) → Unstruck h q (S.entries l.store)))
