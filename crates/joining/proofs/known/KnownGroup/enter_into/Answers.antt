use Rattle.std.proofs.Common.{◌≡◌, ◌+◌, ◌≤◌, length, get_or, drop, Some, sym, ap, ◌∙◌, subst}
use Rattle.std.specs.List.{slice_get}
use Rattle.std.proofs.lemmas.List.{at_drop_all}
use Rattle.contexts.specs.Contexts.{runs_of}
use Rattle.reading.specs.Reading.{item_in}
use Rattle.stores.specs.Items.{count_part}
use Rattle.stores.specs.Puts.{put_after}
use Rattle.joining.specs.Entering.{enter_all}
use Rattle.joining.proofs.EnterSteps.{enter_put, enter_none}
use Rattle.joining.proofs.known.KnownGroup.enter_into.Goals as goal

pub loop-found-preserved-then-not-is_shut : goal.loop-found-preserved-then-not-is_shut
loop-found-preserved-then-not-is_shut g c =
    let S = g.S.DotStore in
    let G = g.G.GroupSource in
    let ks = S.kinds in
    let caps = S.capacities c.args.store.now in
    let ys = (G.group c.args.self.now.group.now).items in
    let rs = runs_of c.args.context.now in
    let v = c.loop-found.invariant in
    let i = c.loop-found.found-iterator.next in
    let xs = S.entries c.loop-found.store in
    let x = c.in-Some.found in
    let e = c.in-Some.ensures.steps in (
      tt,
      tt,
      ap (λ r. r.now) e.0 ∙ v.2,
      c.put.ensures.room ∙ v.3,
      λ s good room.
          let here = subst (λ t. G.legible t → Some (item_in x) ≡ slice_get (G.group t).items i) v.2 e.1.here s in
          let inv = v.4 s good room in
          ap (λ n. enter_all ks rs (S.entries c.put.new.self) (drop n ys)) e.1.moved
          ∙ ap (λ zs. enter_all ks rs zs (drop (i + 1) ys)) (c.put.ensures.after ∙ ap (λ k. put_after ks k xs x.part x.entry) v.3)
          ∙ enter_put ks rs caps xs ys i x.part x.entry here good (λ q. subst (λ zs. count_part q zs ≤ get_or caps q 0) (sym inv) (room q)) (sym c.is_shut.ensures ∙ c.if-not-is_shut.true)
          ∙ inv,
    )

pub loop-found-preserved : goal.loop-found-preserved
loop-found-preserved g c =
    let S = g.S.DotStore in
    let G = g.G.GroupSource in
    let ks = S.kinds in
    let ys = (G.group c.args.self.now.group.now).items in
    let rs = runs_of c.args.context.now in
    let v = c.loop-found.invariant in
    let i = c.loop-found.found-iterator.next in
    let xs = S.entries c.loop-found.store in
    let x = c.in-Some.found in
    let e = c.in-Some.ensures.steps in (
      tt,
      tt,
      ap (λ r. r.now) e.0 ∙ v.2,
      v.3,
      λ s good room.
          let here = subst (λ t. G.legible t → Some (item_in x) ≡ slice_get (G.group t).items i) v.2 e.1.here s in
          ap (λ n. enter_all ks rs xs (drop n ys)) e.1.moved
          ∙ enter_none ks rs (S.capacities c.args.store.now) xs ys i x.part x.entry here (sym c.is_shut.ensures ∙ c.if-not-is_shut.false)
          ∙ v.4 s good room,
    )

pub returns : goal.returns
returns g c =
    let S = g.S.DotStore in
    let G = g.G.GroupSource in
    let ys = (G.group c.args.self.now.group.now).items in
    let rs = runs_of c.args.context.now in
    let v = c.loop-found.invariant in
    let i = c.loop-found.found-iterator.next in
    record {
      room = v.3;
      after = λ s good room.
          let past = subst (λ t. G.legible t → length (G.group t).items ≤ i) v.2 c.in-None.ensures.steps.1 s in
          sym (at_drop_all (enter_all S.kinds rs (S.entries c.loop-found.store)) ys i past) ∙ v.4 s good room;
    }
