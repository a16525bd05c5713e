use Rattle.std.proofs.Common.{◌≡◌, ℕ, ◌*◌, ◌<◌, get_or}
use Rattle.shelves.specs.Slotted.{slot_starts}
use Rattle.shelves.proofs.slot_parts.slots_in.Given as goal

abbrev pub invariant-loop-i : goal.invariant-loop-i
invariant-loop-i l = (k : ℕ) → k < l.i → get_or (slot_starts l.slot-items) k 0 ≡ 24 * (k * l.records)
