use Rattle.std.proofs.Common.{◌-◌, ◌≤◌}
use Rattle.joining.proofs.search.is_listed.Given as goal

abbrev pub decreases-loop-low : goal.decreases-loop-low
decreases-loop-low g l = l.high - l.low

abbrev pub invariant-loop-low : goal.invariant-loop-low
invariant-loop-low g l = l.high ≤ 18446744073709551615
