-- The first parcel, put behind the others.
use Rattle.std.proofs.Common.{◌≡◌, ℕ, ◌+◌, ◌/◌, ◌≤◌, true, ◌||◌, ltb, leb, List, [], ◌∷◌, ◌++◌, length, take, drop, None, Ok, ap, ◌∙◌, arith}
use Rattle.std.specs.List.{slice_get, remove}
use Rattle.std.proofs.lemmas.Bool.{cond-true, cond-false, or_from, lt-leb, le-ltb, lt-ltb}
use Rattle.shelves.specs.Parcels.{Sizes, Within, records, held, whole, crowded, unless, append_refusal, after_append, after_remove, copy_answer, copy_memory}
use Rattle.shelf_moves.specs.Moves.{first_fits}
use Rattle.shelf_moves.proofs.FirstLaws.{fits_from_ok, copied_front, some_parcel}

-- there is room again for a parcel that was held
pub fits_again : (z : Sizes) (p : List ℕ) (ps : List (List ℕ)) → Within z (p ∷ ps) → append_refusal z ps p ≡ None
fits_again z p ps w =
    let few = w.few in
    let all = w.held in
    let short : records p ≤ z.longest = w.short.0 in
    cond-true (whole (length p)) _ _ w.whole.0
    ∙ cond-false (crowded z (length ps) (held ps) (length p / 24)) _ _
    (or_from (leb z.most (length ps)) (ltb z.longest (length p / 24) || ltb z.room (held ps + length p / 24)) (lt-leb z.most (length ps) (omega arith))
    (or_from (ltb z.longest (length p / 24)) (ltb z.room (held ps + length p / 24)) (le-ltb z.longest (length p / 24) short) (le-ltb z.room (held ps + length p / 24) (omega arith))))

pub first_fits_ok : (ps : List (List ℕ)) (size n : ℕ) → Ok n ≡ copy_answer (slice_get ps 0) 0 size → first_fits size ps ≡ true
first_fits_ok [] size n e = cc
first_fits_ok (p ∷ ps) size n e = (fits_from_ok p 0 size n e).0

-- what appending it to the others then leaves
pub record Behind (z : Sizes) (ps qs : List (List ℕ)) (news : List ℕ) : Type 0 where
  pub taken : append_refusal z qs news ≡ None
  pub parcels : after_append z qs news ≡ drop 1 ps ++ take 1 ps

pub behind : (z y : Sizes) (ps qs : List (List ℕ)) (m after : List ℕ) (n : ℕ) → Within z ps → y ≡ z → Ok n ≡ copy_answer (slice_get ps 0) 0 (length m) → after ≡ copy_memory (slice_get ps 0) m → qs ≡ drop 1 ps
    → Behind y ps qs (take n after)
behind z y [] qs m after n w same ok made rest = cc
behind z y (p ∷ ps) qs m after n w same ok made rest =
    let news = take n after in
    let first : news ≡ p = ap (take n) made ∙ copied_front (p ∷ ps) m n ok in
    let none : append_refusal y qs news ≡ None =
    ap (λ x. append_refusal x qs news) same ∙ ap (λ xs. append_refusal z xs news) rest ∙ ap (append_refusal z ps) first ∙ fits_again z p ps w in
    record {
      taken = none;
      parcels = ap (λ o. unless o (qs ++ news ∷ []) qs) none ∙ ap (λ xs. xs ++ news ∷ []) rest ∙ ap (λ x. ps ++ x ∷ []) first;
    }

-- the others, when the first is removed
pub others : (ps : List (List ℕ)) (size n : ℕ) → Ok n ≡ copy_answer (slice_get ps 0) 0 size → after_remove ps 0 ≡ drop 1 ps
others ps size n e = ap (λ o. unless o (remove ps 0) ps) (cond-true _ _ _ (lt-ltb 0 (length ps) (some_parcel ps size n e)))
