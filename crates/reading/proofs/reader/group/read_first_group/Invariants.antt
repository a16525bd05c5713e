use Rattle.std.proofs.Common.{◌-◌, ◌/◌, length}
use Rattle.reading.specs.Stands.{stand_of}
use Rattle.reading.proofs.Scans.{SoFar}
use Rattle.reading.proofs.reader.group.read_first_group.Given as goal

abbrev pub invariant-loop-origin : goal.invariant-loop-origin
invariant-loop-origin g l = SoFar g.S.DotStore.kinds l.journal (stand_of l.reader)

abbrev pub decreases-loop-origin : goal.decreases-loop-origin
decreases-loop-origin g l = length l.journal / 24 - l.reader.progress.at
