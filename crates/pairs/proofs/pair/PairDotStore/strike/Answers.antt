use Rattle.std.proofs.Common.{length, sym, ◌∙◌, ap₂}
use Rattle.pairs.specs.Pairs.{both, paired}
use Rattle.stores.proofs.Stays.{orderly_strike}
use Rattle.pairs.proofs.PairLaws.{strike_both, orderly_at}
use Rattle.pairs.proofs.pair.PairDotStore.strike.Goals as goal

pub invariant_of-self : goal.invariant_of-self
invariant_of-self g c =
    let t = c.args.self.now in
    let ks = paired g.A.DotStore.kinds g.B.DotStore.kinds in
    let cs = paired (g.A.DotStore.capacities t.first) (g.B.DotStore.capacities t.second) in
    let n = length g.A.DotStore.kinds in
    let xs = g.A.DotStore.entries t.first in
    let ys = g.B.DotStore.entries t.second in
    let d = c.args.dot in
    record {
      orderly = orderly_at ks cs _ _ _ (ap₂ (λ us vs. paired us vs) c.strike.ensures.room c.strike-2.ensures.room)
          (ap₂ (both n) c.strike.ensures.after c.strike-2.ensures.after ∙ sym (strike_both n d xs ys)) (orderly_strike ks cs d (both n xs ys) t.orderly);
    }

pub returns-clause-after : goal.returns-clause-after
returns-clause-after g c =
    let t = c.args.self.now in
    let n = length g.A.DotStore.kinds in
    ap₂ (both n) c.strike.ensures.after c.strike-2.ensures.after ∙ sym (strike_both n c.args.dot (g.A.DotStore.entries t.first) (g.B.DotStore.entries t.second))
