use Rattle.std.proofs.Common.{◌<◌, length, ap, ◌∙◌, arith}
use Rattle.std.proofs.lemmas.List.{take_all}
use Rattle.contexts.specs.Contexts.{runs_of, with_run}
use Rattle.joining.proofs.RunLists.{collect_more, no_nth}
use Rattle.joining.proofs.known.KnownGroup.new.Goals as goal
use Rattle.joining.proofs.known.KnownGroup.new.Goals.{in-Some, in_default}

pub loop-i-preserved : goal.loop-i-preserved
loop-i-preserved g c s =
    let G = g.G.GroupSource in
    let t = c.args.group.now in
    let rs = (G.group t).runs in
    let i = c.loop-i.i in
    let n = c.run_count-i-end.ensures s in
    let h : i < length rs = omega arith in
    elim c.match-run_at.branch [
      | in-Some w ↦ ap runs_of w.dots-is ∙ w.add_run.ensures.after ∙ ap (λ qs. with_run qs w.in-Some.run') (c.loop-i.invariant s)
          ∙ collect_more rs i w.in-Some.run' (G.readable t s).one_form (G.readable t s).few h (w.in-Some.ensures s)
      | in_default w ↦ absurd (no_nth rs i h (w.in_default.ensures s))
    ]

pub invariant_of-result : goal.invariant_of-result
invariant_of-result g c = record {
  same = λ s.
      let rs = (g.G.GroupSource.group c.args.group.now).runs in
      let n = c.run_count-i-end.ensures s in
      c.loop-i.invariant s ∙ take_all c.loop-i.i rs (omega arith);
}
