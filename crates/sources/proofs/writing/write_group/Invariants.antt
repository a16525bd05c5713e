use Rattle.std.proofs.Common.{◌≡◌, take}
use Rattle.records.specs.Written.{records_for}
use Rattle.sources.proofs.Filling.{filled}
use Rattle.sources.proofs.writing.write_group.Given as goal

abbrev pub invariant-loop-i : goal.invariant-loop-i
invariant-loop-i g l = g.G.GroupSource.sound l.group → l.memory ≡ filled (take l.i (records_for (g.G.GroupSource.group l.group) l.origin)) l.initial.memory
