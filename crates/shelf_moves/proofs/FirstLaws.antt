-- The first parcel, copied.
use Rattle.std.proofs.Common.{◌≡◌, ℕ, ◌<◌, true, leb, List, [], ◌∷◌, length, get_or, take, drop, is_ok, Some, None, Ok, Err, Result, refl, ap, ◌∙◌, ⊎_elim, arith}
use Rattle.std.specs.List.{slice_get}
use Rattle.std.proofs.lemmas.List.{take_at}
use Rattle.std.proofs.lemmas.Bool.{cases_Bool, cond-true, cond-false}
use Rattle.shelves.specs.declared.fault.ShelfFault.{ShelfFault}
use Rattle.refusals.specs.Table.{refused}
use Rattle.shelves.specs.Parcels.{refusal, copy_answer, copy_memory}

pub ok_is_none : {X : Type 0} (r : Result X ShelfFault) → refusal r ≡ None → is_ok r ≡ true
ok_is_none (Ok x) e = refl
ok_is_none (Err f) e = cc

-- what an accepted copy tells
pub fits_from_ok : (p : List ℕ) (position size n : ℕ) → Ok n ≡ copy_answer (Some p) position size → (leb (length p) size ≡ true) × (n ≡ length p)
fits_from_ok p position size n e =
    ⊎_elim (λ t. let q : Ok n ≡ Ok (length p) = e ∙ cond-true (leb (length p) size) _ _ t in (t, cc))
    (λ f. absurd (let q : Ok n ≡ Err (refused 12 (length p)) = e ∙ cond-false (leb (length p) size) _ _ f in let o : ◌≡◌ {A = ℕ} 0 1 = cc in omega arith))
    (cases_Bool (leb (length p) size))

pub copied_front : (ps : List (List ℕ)) (m : List ℕ) (n : ℕ) → Ok n ≡ copy_answer (slice_get ps 0) 0 (length m) → take n (copy_memory (slice_get ps 0) m) ≡ get_or ps 0 []
copied_front [] m n e = cc
copied_front (p ∷ ps) m n e =
    let w = fits_from_ok p 0 (length m) n e in
    ap (take n) (cond-true (leb (length p) (length m)) _ _ w.0) ∙ take_at p (drop (length p) m) n (omega (arith, w.1))

pub some_parcel : (ps : List (List ℕ)) (size n : ℕ) → Ok n ≡ copy_answer (slice_get ps 0) 0 size → 0 < length ps
some_parcel [] size n e = cc
some_parcel (p ∷ ps) size n e = omega arith
