use Rattle.std.proofs.Common.{◌≡◌, ℕ, ◌<◌}
use Rattle.joining.specs.Strikes.{remaining, Unstruck}
use Rattle.joining.proofs.known.KnownGroup.strike_from.Given as goal

abbrev pub invariant-loop-part : goal.invariant-loop-part
invariant-loop-part g l =
    let S = g.S.DotStore in
    let G = g.G.GroupSource in
    let old = l.initial.store in
    let h = G.group l.self.group.now in
    (S.capacities l.store ≡ S.capacities old)
    × (G.legible l.self.group.now → (remaining h (S.entries l.store) ≡ remaining h (S.entries old))
    × ((q : ℕ) → q < l.part → Unstruck h q (S.entries l.store)))
