use Rattle.std.proofs.Common.{◌-◌, drop, filter, sym, refl, ap, ◌∙◌, subst, arith}
use Rattle.reading.specs.Reading.{item_in}
use Rattle.stores.specs.Items.{in_part}
use Rattle.joining.specs.Strikes.{remaining, Unstruck}
use Rattle.joining.proofs.Struck.{Free, strike_one, unstruck_strike, turn_struck, turn_spared, free_past, free_end, step_down, drop_zero}
use Rattle.joining.proofs.known.KnownGroup.strike_from_part.Goals as goal

pub loop-i-init : goal.loop-i-init
loop-i-init g c = (
  refl,
  λ t. (
    refl,
    (let n = c.count-i.ensures in
        free_end (g.G.GroupSource.group c.args.self.now.group.now) (filter (in_part c.args.part) (g.S.DotStore.entries c.args.store.now)) c.count-i.result (omega arith)),
    λ q u. u,
  ),
)

pub loop-i-preserved : goal.loop-i-preserved
loop-i-preserved g c =
    let v = c.loop-i.invariant in
    let h = g.G.GroupSource.group c.args.self.now.group.now in
    let zs = filter (in_part c.args.part) (g.S.DotStore.entries c.loop-i.store) in
    (v.0, λ t. ((v.1 t).0, free_past h zs (c.loop-i.i - 1) c.in_default.ensures, (v.1 t).2))

pub loop-i-preserved-then-strikes : goal.loop-i-preserved-then-strikes
loop-i-preserved-then-strikes g c =
    let v = c.loop-i.invariant in
    let S = g.S.DotStore in
    let h = g.G.GroupSource.group c.args.self.now.group.now in
    let p = c.args.part in
    let i = c.loop-i.i in
    let xs = S.entries c.loop-i.store in
    let x = item_in c.in-Some.found in
    let after = c.strike.ensures.after in (
      c.strike.ensures.room ∙ v.0,
      λ t.
          let w = v.1 t in
          let b = sym (c.strikes.ensures t) ∙ c.if-strikes.true in (
            ap (remaining h) after ∙ strike_one h x.dot xs b ∙ w.0,
            subst (λ ys. Free h (drop (i - 1) (filter (in_part p) ys))) (sym after)
                (turn_struck h p xs (i - 1) x c.in-Some.ensures (step_down h (filter (in_part p) xs) i c.loop-i-test.true w.1)),
            λ q u. subst (Unstruck h q) (sym after) (unstruck_strike h q x.dot xs (w.2 q u)),
          ),
    )

pub loop-i-preserved-else-strikes : goal.loop-i-preserved-else-strikes
loop-i-preserved-else-strikes g c =
    let v = c.loop-i.invariant in
    let h = g.G.GroupSource.group c.args.self.now.group.now in
    let p = c.args.part in
    let i = c.loop-i.i in
    let xs = g.S.DotStore.entries c.loop-i.store in
    let x = item_in c.in-Some.found in (
      v.0,
      λ t.
          let w = v.1 t in
          (w.0, turn_spared h p xs (i - 1) x c.in-Some.ensures (step_down h (filter (in_part p) xs) i c.loop-i-test.true w.1) (sym (c.strikes.ensures t) ∙ c.if-strikes.false), w.2),
    )

pub returns : goal.returns
returns g c =
    let h = g.G.GroupSource.group c.args.self.now.group.now in
    let zs = filter (in_part c.args.part) (g.S.DotStore.entries c.loop-i.store) in
    record {
      room = c.loop-i.invariant.0;
      after = λ t. let w = c.loop-i.invariant.1 t in (w.0, drop_zero h zs c.loop-i.i c.loop-i-test.false w.1, w.2);
    }
