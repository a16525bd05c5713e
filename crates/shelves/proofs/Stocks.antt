-- When a parcel fits, and what then holds of the parcels.
use Rattle.std.proofs.Common.{◌≡◌, ℕ, zero, suc, ◌+◌, ◌*◌, ◌/◌, ◌%◌, ◌<◌, ◌≤◌, true, ◌||◌, eqb, ltb, leb, List, [], ◌∷◌, ◌++◌, map, length, take, drop, None, sum, sym, refl, ap, ◌∙◌, ⊎_elim, arith}
use Rattle.std.specs.List.{remove, slice_get, AllByRecursion}
use Rattle.std.proofs.lemmas.List.Sums.{sum_by-cons}
use Rattle.std.proofs.lemmas.List.{length_push}
use Rattle.std.proofs.lemmas.List.Edits.{length-remove}
use Rattle.std.proofs.ByRecursion.{All-push, All-append, All-take, All-drop}
use Rattle.std.proofs.lemmas.Bool.{cases_Bool, cond-true, cond-false, and_parts, or_parts, ltb-true, ltb-false, leb-false, eqb-true, lt-ltb}
use Rattle.shelves.specs.Parcels.{Sizes, Within, records, held, whole, crowded, misfit, unless, append_refusal, after_append, remove_refusal, after_remove}

-- a parcel of so many bytes fits beside `count` parcels with `used` records
pub record Fits (z : Sizes) (count used bytes : ℕ) : Type 0 where
  pub whole : whole bytes ≡ true
  pub fewer : count < z.most
  pub shorter : bytes / 24 ≤ z.longest
  pub room : used + bytes / 24 ≤ z.room

pub whole_parts : (n : ℕ) → whole n ≡ true → (0 < n) × (n ≡ 24 * (n / 24))
whole_parts n e =
    let p = and_parts (ltb 0 n) (eqb (n % 24) 0) e in
    let a = ltb-true 0 n p.0 in
    let b = eqb-true (n % 24) 0 p.1 in
    (omega arith, omega arith)

pub misfit_none : (z : Sizes) (count used bytes : ℕ) → misfit z count used bytes ≡ None → Fits z count used bytes
misfit_none z count used bytes e =
    ⊎_elim
    (λ w. let inner = sym (cond-true (whole bytes) _ _ w) ∙ e in
    ⊎_elim
    (λ k. absurd (let bad = sym (cond-true (crowded z count used (bytes / 24)) _ _ k) ∙ inner in let o : ◌≡◌ {A = ℕ} 0 1 = cc in omega arith))
    (λ k. let p = or_parts (leb z.most count) (ltb z.longest (bytes / 24) || ltb z.room (used + bytes / 24)) k in
    let q = or_parts (ltb z.longest (bytes / 24)) (ltb z.room (used + bytes / 24)) p.1 in
    record { whole = w; fewer = leb-false z.most count p.0; shorter = ltb-false z.longest (bytes / 24) q.0; room = ltb-false z.room (used + bytes / 24) q.1 })
    (cases_Bool (crowded z count used (bytes / 24))))
    (λ w. absurd (let bad = sym (cond-false (whole bytes) _ _ w) ∙ e in let o : ◌≡◌ {A = ℕ} 0 1 = cc in omega arith))
    (cases_Bool (whole bytes))

pub held_push : (ps : List (List ℕ)) (p : List ℕ) → held (ps ++ p ∷ []) ≡ held ps + records p
held_push [] p = omega arith
held_push (q ∷ ps) p = let h = held_push ps p in omega arith

pub held_removed : (ps : List (List ℕ)) (i : ℕ) → held (remove ps i) ≤ held ps
held_removed [] zero = omega arith
held_removed [] (suc i) = omega arith
held_removed (q ∷ ps) zero = omega arith
held_removed (q ∷ ps) (suc i) = let h = held_removed ps i in omega arith

-- whole parcels have 24 bytes for each record
pub sum_held : (ps : List (List ℕ)) → AllByRecursion (λ p. whole (length p) ≡ true) ps → sum (map length ps) ≡ 24 * held ps
sum_held [] a = refl
sum_held (p ∷ ps) a =
    let s = sum_by-cons (λ x. x) (length p) (map length ps) in
    let w = whole_parts (length p) a.0 in
    let rest = sum_held ps a.1 in
    omega (arith, w.1)

pub within_append : (z : Sizes) (ps : List (List ℕ)) (p : List ℕ) → Within z ps → Fits z (length ps) (held ps) (length p) → Within z (ps ++ p ∷ [])
within_append z ps p w f =
    let n = length_push ps p in
    let h = held_push ps p in
    let r = f.room in
    record {
      few = omega (arith, f.fewer);
      whole = All-push (λ q. whole (length q) ≡ true) ps p w.whole f.whole;
      short = All-push (λ q. records q ≤ z.longest) ps p w.short f.shorter;
      held = omega arith;
    }

pub within_remove : (z : Sizes) (ps : List (List ℕ)) (i : ℕ) → Within z ps → i < length ps → Within z (remove ps i)
within_remove z ps i w h =
    let n = length-remove ps i h in
    record {
      few = omega (arith, w.few);
      whole = All-append (λ q. whole (length q) ≡ true) (take i ps) (drop (suc i) ps) (All-take _ i ps w.whole) (All-drop _ (suc i) ps w.whole);
      short = All-append (λ q. records q ≤ z.longest) (take i ps) (drop (suc i) ps) (All-take _ i ps w.short) (All-drop _ (suc i) ps w.short);
      held = omega (arith, held_removed ps i, w.held);
    }

-- the test of a new parcel by the numbers that the code computes
pub same_misfit : (y z : Sizes) (ps : List (List ℕ)) (count used n : ℕ) → y ≡ z → count ≡ length ps → used ≡ held ps → misfit y count used n ≡ misfit z (length ps) (held ps) n
same_misfit y z ps count used n e f g = ap (λ x. misfit x count used n) e ∙ ap (λ x. misfit z x used n) f ∙ ap (λ x. misfit z (length ps) x n) g

-- each outcome of a call
pub append_taken : (z : Sizes) (ps : List (List ℕ)) (p : List ℕ) → append_refusal z ps p ≡ None → after_append z ps p ≡ ps ++ p ∷ []
append_taken z ps p e = ap (λ o. unless o (ps ++ p ∷ []) ps) e

pub remove_answer : (ps : List (List ℕ)) (i : ℕ) → i < length ps → remove_refusal ps i ≡ None
remove_answer ps i h = cond-true _ _ _ (lt-ltb i (length ps) h)

pub remove_taken : (ps : List (List ℕ)) (i : ℕ) → i < length ps → after_remove ps i ≡ remove ps i
remove_taken ps i h = ap (λ o. unless o (remove ps i) ps) (remove_answer ps i h)

-- nothing at a position
pub past_from_get : {X : Type 0} (xs : List X) (i : ℕ) → slice_get xs i ≡ None → length xs ≤ i
past_from_get [] i e = omega arith
past_from_get (x ∷ xs) zero e = cc
past_from_get (x ∷ xs) (suc i) e = let h = past_from_get xs i e in omega arith
