use Rattle.std.proofs.Common.{◌≡◌, ◌+◌, drop}
use Rattle.shelves.specs.Layout.{laid}
use Rattle.shelves.proofs.round.Round.write_in.Given as goal

abbrev pub invariant-loop-i : goal.invariant-loop-i
invariant-loop-i l = laid l.bytes l.self.room l.self.start (l.from + l.i) (drop l.i l.news) ≡ laid l.initial.bytes l.self.room l.self.start l.from l.news
