use Rattle.std.proofs.Common.{◌≡◌, ◌++◌, drop}
use Rattle.shelves.specs.Layout.{stretch}
use Rattle.shelves.proofs.round.Round.copy_out.Given as goal

abbrev pub invariant-loop-i : goal.invariant-loop-i
invariant-loop-i l = l.b-items ≡ stretch l.bytes l.self.room l.self.start l.extent.from l.i ++ drop l.i l.initial.b-items
