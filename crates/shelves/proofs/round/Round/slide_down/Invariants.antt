use Rattle.std.proofs.Common.{◌≡◌, ◌+◌, ◌-◌}
use Rattle.shelves.specs.Layout.{slid}
use Rattle.shelves.proofs.round.Round.slide_down.Given as goal

abbrev pub invariant-loop-i : goal.invariant-loop-i
invariant-loop-i l = slid l.bytes l.self.room l.self.start (l.at + l.i) l.gap (l.count - l.i) ≡ slid l.initial.bytes l.self.room l.self.start l.at l.gap l.count
