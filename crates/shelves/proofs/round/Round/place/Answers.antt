use Rattle.std.proofs.Common.{sym, arith}
use Rattle.shelves.proofs.Turns.{turn_below, turn_above}
use Rattle.shelves.proofs.round.Round.place.Goals as goal

pub returns-then-i-left : goal.returns-then-i-left
returns-then-i-left c = sym (turn_below c.args.self.room c.args.self.start c.args.i (omega arith))

pub returns-else-i-left : goal.returns-else-i-left
returns-else-i-left c = omega (arith, turn_above c.args.self.room c.args.self.start c.args.i (omega arith))
