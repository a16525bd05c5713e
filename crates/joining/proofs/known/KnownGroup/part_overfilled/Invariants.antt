use Rattle.std.proofs.Common.{◌≡◌, ◌-◌, length}
use Rattle.contexts.specs.Contexts.{runs_of}
use Rattle.groups.specs.Groups.{joined}
use Rattle.sources.specs.Sources.{book}
use Rattle.joining.specs.Questions.{overfull_from, overfull}
use Rattle.joining.proofs.known.KnownGroup.part_overfilled.Given as goal

abbrev pub invariant-loop-part : goal.invariant-loop-part
invariant-loop-part g l =
    let S = g.S.DotStore in
    let G = g.G.GroupSource in
    let caps = S.capacities l.store in
    let xs = (joined S.kinds (book (S.entries l.store) (runs_of l.context)) (G.group l.self.group.now)).items in
    G.legible l.self.group.now → overfull_from caps xs (length S.kinds - l.part) l.part ≡ overfull S.kinds caps xs
