use Rattle.std.proofs.Common.{◌≡◌, length, sym, ◌∙◌, subst, inl, inr, arith}
use Rattle.std.proofs.lemmas.Bool.{cases_lt}
use Rattle.stores.proofs.Stays.{all_placed}
use Rattle.joining.specs.Strikes.{Unstruck}
use Rattle.joining.proofs.Struck.{all_free, remaining_free}
use Rattle.joining.proofs.known.KnownGroup.strike_from.Goals as goal

pub loop-part-preserved : goal.loop-part-preserved
loop-part-preserved g c =
    let v = c.loop-part.invariant in
    let h = g.G.GroupSource.group c.args.self.now.group.now in
    let p = c.loop-part.part in
    let a = c.strike_from_part.ensures.after in (
      c.strike_from_part.ensures.room ∙ v.0,
      λ t.
          let w = v.1 t in (
            (a t).0 ∙ w.0,
            λ q l. elim (cases_lt q p) [
              | inl b ↦ (a t).2 q (w.1 q b)
              | inr b ↦ let m : p ≡ q = omega arith in subst (λ n. Unstruck h n (g.S.DotStore.entries c.strike_from_part.new.store)) m (a t).1
            ],
          ),
    )

pub returns : goal.returns
returns g c =
    let S = g.S.DotStore in
    let h = g.G.GroupSource.group c.args.self.now.group.now in
    let t = c.loop-part.store in
    let k = c.part_count-part-end.ensures in
    record {
      room = c.loop-part.invariant.0;
      after = λ m.
          let w = c.loop-part.invariant.1 m in
          let o = S.orderly t in
          sym (remaining_free h (S.entries t) (all_free h (length S.kinds) (S.entries t) (all_placed S.kinds (S.entries t) o.proper) (λ q l. w.1 q (omega arith)))) ∙ w.0;
    }
