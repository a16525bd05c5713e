use Rattle.std.proofs.Common.{length, get_or, Some, ap, ◌∙◌, arith}
use Rattle.contexts.specs.Contexts.{runs_of}
use Rattle.groups.specs.Groups.{joined}
use Rattle.sources.specs.Sources.{book}
use Rattle.joining.proofs.CountSteps.{count_joined, overfull_here, overfull_later, overfull_past, capacity_small}
use Rattle.joining.proofs.known.KnownGroup.part_overfilled.Goals as goal

pub returns-then-saturating_add-capacity : goal.returns-then-saturating_add-capacity
returns-then-saturating_add-capacity g c t =
    let S = g.S.DotStore in
    let ks = S.kinds in
    let m = c.args.store.now in
    let caps = S.capacities m in
    let b = book (S.entries m) (runs_of c.args.context.now) in
    let h = g.G.GroupSource.group c.args.self.now.group.now in
    let p = c.loop-part.part in
    let k = c.part_count-part-end.ensures in
    let all = count_joined p ks b h in
    let stay = c.count_spared-staying.ensures t in
    let come = c.count_new-coming.ensures t in
    let same = c.from-part.ensures in
    let cap = c.capacity.ensures ∙ ap (λ q. get_or caps q 0) same in
    let sum = c.saturating_add.ensures in
    ap Some same ∙ overfull_here caps (joined ks b h).items (length ks) p (omega arith) (omega arith) ∙ c.loop-part.invariant t

pub loop-part-preserved : goal.loop-part-preserved
loop-part-preserved g c t =
    let S = g.S.DotStore in
    let ks = S.kinds in
    let m = c.args.store.now in
    let caps = S.capacities m in
    let b = book (S.entries m) (runs_of c.args.context.now) in
    let h = g.G.GroupSource.group c.args.self.now.group.now in
    let p = c.loop-part.part in
    let k = c.part_count-part-end.ensures in
    let all = count_joined p ks b h in
    let stay = c.count_spared-staying.ensures t in
    let come = c.count_new-coming.ensures t in
    let same = c.from-part.ensures in
    let cap = c.capacity.ensures ∙ ap (λ q. get_or caps q 0) same in
    let sum = c.saturating_add.ensures in
    let small = capacity_small ks caps p (S.roomy m) (omega arith) in
    overfull_later caps (joined ks b h).items (length ks) p (omega arith) (omega arith) ∙ c.loop-part.invariant t

pub returns : goal.returns
returns g c t =
    let S = g.S.DotStore in
    let ks = S.kinds in
    let m = c.args.store.now in
    let b = book (S.entries m) (runs_of c.args.context.now) in
    let h = g.G.GroupSource.group c.args.self.now.group.now in
    let k = c.part_count-part-end.ensures in
    overfull_past (S.capacities m) (joined ks b h).items (length ks) c.loop-part.part (omega arith) ∙ c.loop-part.invariant t
