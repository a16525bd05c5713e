use Rattle.std.proofs.Common.{◌≡◌, take}
use Rattle.contexts.specs.Contexts.{runs_of}
use Rattle.joining.proofs.known.KnownGroup.new.Given as goal

abbrev pub invariant-loop-i : goal.invariant-loop-i
invariant-loop-i g l = g.G.GroupSource.legible l.group → runs_of l.dots ≡ take l.i (g.G.GroupSource.group l.group).runs
