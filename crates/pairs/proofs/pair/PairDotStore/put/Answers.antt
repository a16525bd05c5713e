use Rattle.std.proofs.Common.{◌≡◌, ◌-◌, true, false, length, refl, sym, ap, ◌∙◌, arith, rules}
use Rattle.std.specs.Option.{option_map}
use Rattle.std.specs.Result.{result_err}
use Rattle.stores.specs.Faults.{refusal_of, renumbered}
use Rattle.stores.specs.Puts.{put_refusal, put_after}
use Rattle.pairs.specs.declared.pair.Pair.{Pair}
use Rattle.pairs.specs.Pairs.{both, paired}
use Rattle.pairs.proofs.PairLaws.{Halves, stays_low, stays_high, answer_low, answer_high, after_low, after_high, put_keeps, told}
use Rattle.pairs.proofs.pair.PairDotStore.put.Given.{Over}
use Rattle.pairs.proofs.pair.PairDotStore.put.Goals as goal

halves : (g : Over) (t : Pair g.row.A.Denot g.row.B.Denot g.A.DotStore g.B.DotStore)
    → Halves g.A.DotStore.kinds g.B.DotStore.kinds (g.A.DotStore.capacities t.first) (g.B.DotStore.capacities t.second) (g.A.DotStore.entries t.first) (g.B.DotStore.entries t.second)
halves g t = record { parts = g.A.DotStore.parts; roomy = g.A.DotStore.roomy t.first; first = g.A.DotStore.orderly t.first; orderly = t.orderly }

pub returns-then-is_some : goal.returns-then-is_some
returns-then-is_some g c =
    let t = c.args.self.now in
    let p = c.args.part in
    let e = c.args.entry in
    let n : c.part_count-parts.result ≡ length g.A.DotStore.kinds = c.part_count-parts.ensures in
    let there = told c.find.result e.dot (g.B.DotStore.entries t.second) true c.find.ensures c.if-is_some.ensures in
    let stays = stays_low (halves g t) p e (sym c.in_ok-check.ensures) (omega arith) there in
    record { room = refl; answer = stays.0; after = stays.1 }

pub invariant_of-self : goal.invariant_of-self
invariant_of-self g c =
    let t = c.args.self.now in
    let p = c.args.part in
    let e = c.args.entry in
    let n : c.part_count-parts.result ≡ length g.A.DotStore.kinds = c.part_count-parts.ensures in
    let gone = told c.find.result e.dot (g.B.DotStore.entries t.second) false c.find.ensures c.if-is_some.ensures in
    let room = ap (λ us. paired us (g.B.DotStore.capacities t.second)) c.put.ensures.room in
    let after = ap (λ us. both (length g.A.DotStore.kinds) us (g.B.DotStore.entries t.second)) c.put.ensures.after ∙ after_low (halves g t) p e (omega arith) gone in
    record { orderly = put_keeps (halves g t) p e _ _ room after }

pub returns-then-part-parts : goal.returns-then-part-parts
returns-then-part-parts g c =
    let t = c.args.self.now in
    let p = c.args.part in
    let e = c.args.entry in
    let n : c.part_count-parts.result ≡ length g.A.DotStore.kinds = c.part_count-parts.ensures in
    let gone = told c.find.result e.dot (g.B.DotStore.entries t.second) false c.find.ensures c.if-is_some.ensures in
    let room = ap (λ us. paired us (g.B.DotStore.capacities t.second)) c.put.ensures.room in
    let after = ap (λ us. both (length g.A.DotStore.kinds) us (g.B.DotStore.entries t.second)) c.put.ensures.after ∙ after_low (halves g t) p e (omega arith) gone in
    record { room = room; answer = c.put.ensures.answer ∙ answer_low (halves g t) p e (omega arith) gone; after = after }

pub returns-then-is_some-2 : goal.returns-then-is_some-2
returns-then-is_some-2 g c =
    let t = c.args.self.now in
    let p = c.args.part in
    let e = c.args.entry in
    let n : c.part_count-parts.result ≡ length g.A.DotStore.kinds = c.part_count-parts.ensures in
    let there = told c.find-2.result e.dot (g.A.DotStore.entries t.first) true c.find-2.ensures c.if-is_some-2.ensures in
    let stays = stays_high (halves g t) p e (sym c.in_ok-check.ensures) (omega arith) there in
    record { room = refl; answer = stays.0; after = stays.1 }

pub invariant_of-self-2 : goal.invariant_of-self-2
invariant_of-self-2 g c =
    let t = c.args.self.now in
    let p = c.args.part in
    let e = c.args.entry in
    let n : c.part_count-parts.result ≡ length g.A.DotStore.kinds = c.part_count-parts.ensures in
    let right = sym c.in_ok-check.ensures in
    let gone = told c.find-2.result e.dot (g.A.DotStore.entries t.first) false c.find-2.ensures c.if-is_some-2.ensures in
    let room = ap (paired (g.A.DotStore.capacities t.first)) c.put-2.ensures.room in
    let after = ap (both (length g.A.DotStore.kinds) (g.A.DotStore.entries t.first)) (c.put-2.ensures.after ∙ ap (λ j. put_after g.B.DotStore.kinds (g.B.DotStore.capacities t.second) (g.B.DotStore.entries t.second) (p - j) e) n) ∙ after_high (halves g t) p e right (omega arith) gone in
    record { orderly = put_keeps (halves g t) p e _ _ room after }

pub returns : goal.returns
returns g c =
    let t = c.args.self.now in
    let p = c.args.part in
    let e = c.args.entry in
    let n : c.part_count-parts.result ≡ length g.A.DotStore.kinds = c.part_count-parts.ensures in
    let right = sym c.in_ok-check.ensures in
    let gone = told c.find-2.result e.dot (g.A.DotStore.entries t.first) false c.find-2.ensures c.if-is_some-2.ensures in
    let room = ap (paired (g.A.DotStore.capacities t.first)) c.put-2.ensures.room in
    let after = ap (both (length g.A.DotStore.kinds) (g.A.DotStore.entries t.first)) (c.put-2.ensures.after ∙ ap (λ j. put_after g.B.DotStore.kinds (g.B.DotStore.capacities t.second) (g.B.DotStore.entries t.second) (p - j) e) n) ∙ after_high (halves g t) p e right (omega arith) gone in
    let renumber : option_map refusal_of (result_err c.map_err.result) ≡ option_map refusal_of (option_map (renumbered p) (result_err c.put-2.result)) = search rules in
    record {
      room = room;
      answer = renumber ∙ answer_high (halves g t) p e right (omega arith) gone (result_err c.put-2.result)
          (c.put-2.ensures.answer ∙ ap (λ j. put_refusal g.B.DotStore.kinds (g.B.DotStore.capacities t.second) (g.B.DotStore.entries t.second) (p - j) e) n);
      after = after;
    }
