use Rattle.std.proofs.Common.{◌≡◌, ◌+◌, ◌-◌, ◌/◌, true, rules}
use Rattle.causal.specs.Dots.{same_dot}
use Rattle.reading.specs.Reading.{item_in}
use Rattle.joining.proofs.Walks.{nth_stands}
use Rattle.joining.proofs.search.is_listed.Goals as goal

pub returns-then-eq : goal.returns-then-eq
unfolding same_dot
returns-then-eq g c s e =
    let i = c.loop-low.low + (c.loop-low.high - c.loop-low.low) / 2 in
    let same : same_dot c.in-Some.found.entry.dot c.args.wanted.entry.dot ≡ true = search rules in
    nth_stands c.args.wanted.entry.dot (g.G.GroupSource.group c.args.group.now).items i (item_in c.in-Some.found) (c.in-Some.ensures s) same
