use Rattle.std.proofs.Common.{◌≡◌, ℕ, ◌≤◌, get_or, None, sym, ap, ◌∙◌, subst}
use Rattle.contexts.specs.Contexts.{runs_of}
use Rattle.groups.specs.Groups.{Formed, joined}
use Rattle.stores.specs.Items.{count_part}
use Rattle.sources.specs.Sources.{book}
use Rattle.joining.specs.Questions.{overfull}
use Rattle.joining.specs.Entering.{enter_all}
use Rattle.joining.specs.Outcomes.{outcome_refusal, after_join}
use Rattle.joining.specs.Strikes.{remaining}
use Rattle.joining.proofs.Finish.{union_made, nothing_wrong, entering_room, joined_after}
use Rattle.joining.proofs.join.join_group.Goals as goal

pub returns : goal.returns
returns g c =
    let S = g.S.DotStore in
    let G = g.G.GroupSource in
    let ks = S.kinds in
    let m = c.args.store.now in
    let caps = S.capacities m in
    let rs = runs_of c.args.context.now in
    let b = book (S.entries m) rs in
    let same = c.new-known.ensures in
    let h = G.group c.new-known.result.group.now in
    let struck = c.strike_from.new.store in
    let us = runs_of c.in-Some-united_with.united in
    record {
      room = c.enter_into.ensures.room ∙ c.strike_from.ensures.room;
      answer = λ u.
          let t = subst G.legible (sym same) u in
          let none : overfull ks caps (joined ks b h).items ≡ None = sym (c.in_default.ensures t) in
          let made = union_made rs h.runs us (c.in-Some-united_with.ensures t) in
          subst (λ k. None ≡ outcome_refusal ks caps (joined ks b (G.group k))) same (sym (nothing_wrong ks caps (joined ks b h) none made.1));
      after = λ u fb fu.
          let t = subst G.legible (sym same) u in
          let fh : Formed ks h = subst (λ k. Formed ks (G.group k)) (sym same) fu in
          let none : overfull ks caps (joined ks b h).items ≡ None = sym (c.in_default.ensures t) in
          let made = union_made rs h.runs us (c.in-Some-united_with.ensures t) in
          let left = c.strike_from.ensures.after t in
          let kept = c.strike_from.ensures.room in
          let room : (p : ℕ) → count_part p (enter_all ks rs (S.entries struck) h.items) ≤ get_or (S.capacities struck) p 0 =
          λ p. subst (λ xs. count_part p (enter_all ks rs xs h.items) ≤ get_or (S.capacities struck) p 0) (sym left)
          (subst (λ k. count_part p (enter_all ks rs (remaining h (S.entries m)) h.items) ≤ get_or k p 0) (sym kept) (entering_room ks caps b h fb fh none p)) in
          let entered = c.enter_into.ensures.after t fh.proper room in
          subst (λ k. book (S.entries c.enter_into.new.store) us ≡ after_join ks caps b (G.group k)) same
          (joined_after ks caps b h (S.entries c.enter_into.new.store) us fb fh (entered ∙ ap (λ xs. enter_all ks rs xs h.items) left) made.0 (nothing_wrong ks caps (joined ks b h) none made.1));
    }
