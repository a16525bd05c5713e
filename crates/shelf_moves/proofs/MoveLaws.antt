-- Parcels moved one after another.
use Rattle.std.proofs.Common.{◌≡◌, ℕ, zero, suc, ◌+◌, ◌<◌, Bool, true, false, List, [], ◌∷◌, ◌++◌, length, take, drop, sym, refl, ap, ◌∙◌, arith}
use Rattle.std.specs.List.{slice_get}
use Rattle.std.proofs.lemmas.List.{append_assoc, drop-drop}
use Rattle.std.proofs.lemmas.Bool.{cond-true, cond-false}
use Rattle.shelves.specs.Parcels.{Sizes, copy_memory}
use Rattle.shelf_moves.specs.Moves.{passes, first_passes, movable, copied_each, MovedOn}

pub movable_stop : (z : Sizes) (size : ℕ) (qs ps : List (List ℕ)) → first_passes z size qs ps ≡ false → movable z size qs ps ≡ 0
movable_stop z size qs [] e = refl
movable_stop z size qs (p ∷ ps) e = cond-false (passes z size qs p) _ _ e

pub movable_step : (z : Sizes) (size : ℕ) (qs ps : List (List ℕ)) → first_passes z size qs ps ≡ true → movable z size qs ps ≡ suc (movable z size (qs ++ take 1 ps) (drop 1 ps))
movable_step z size qs [] e = absurd (let o : ◌≡◌ {A = ℕ} 0 1 = cc in omega arith)
movable_step z size qs (p ∷ ps) e = cond-true (passes z size qs p) _ _ e

pub copied_more : (ps : List (List ℕ)) (i : ℕ) (m : List ℕ) → i < length ps → copied_each (take (suc i) ps) m ≡ copy_memory (slice_get (drop i ps) 0) (copied_each (take i ps) m)
copied_more [] i m h = absurd (omega arith)
copied_more (p ∷ ps) zero m h = refl
copied_more (p ∷ ps) (suc i) m h = copied_more ps i (copy_memory (slice_get (p ∷ ps) 0) m) (omega arith)

pub take_on : (ps : List (List ℕ)) (i : ℕ) → take i ps ++ take 1 (drop i ps) ≡ take (suc i) ps
take_on [] zero = refl
take_on [] (suc i) = refl
take_on (p ∷ ps) zero = refl
take_on (p ∷ ps) (suc i) = ap (λ xs. p ∷ xs) (take_on ps i)

-- where i parcels have been moved
pub record OnTheWay (z : Sizes) (ps qs : List (List ℕ)) (m : List ℕ) (i : ℕ) (left onto : List (List ℕ)) (then : List ℕ) : Type 0 where
  pub left_is : left ≡ drop i ps
  pub onto_is : onto ≡ qs ++ take i ps
  pub memory_is : then ≡ copied_each (take i ps) m
  pub still : i + movable z (length m) onto left ≡ movable z (length m) qs ps

-- whether the next one is moved, by the numbers that are known then
way_passes : (b : Bool) (z y : Sizes) (size k : ℕ) (onto left : List (List ℕ)) → y ≡ z → k ≡ size → b ≡ first_passes y k onto left → first_passes z size onto left ≡ b
way_passes b z y size k onto left u v e = sym (e ∙ ap (λ x. first_passes x k onto left) u ∙ ap (λ x. first_passes z x onto left) v)

pub way_more : (z y : Sizes) (ps qs : List (List ℕ)) (m : List ℕ) (i : ℕ) (left onto : List (List ℕ)) (then : List ℕ) (left' onto' : List (List ℕ)) (then' : List ℕ) → i < length ps
    → OnTheWay z ps qs m i left onto then → y ≡ z → length then ≡ length m → true ≡ first_passes y (length then) onto left
    → left' ≡ drop 1 left → onto' ≡ onto ++ take 1 left → then' ≡ copy_memory (slice_get left 0) then
    → OnTheWay z ps qs m (i + 1) left' onto' then'
way_more z y ps qs m i left onto then left' onto' then' h w u v e l o t =
    let next : suc i ≡ i + 1 = omega arith in
    let step = movable_step z (length m) onto left (way_passes true z y (length m) (length then) onto left u v e) in
    let same : movable z (length m) onto' left' ≡ movable z (length m) (onto ++ take 1 left) (drop 1 left) = ap (λ xs. movable z (length m) xs left') o ∙ ap (movable z (length m) (onto ++ take 1 left)) l in
    let still = w.still in
    record {
      left_is = l ∙ ap (drop 1) w.left_is ∙ drop-drop 1 i ps;
      onto_is = o ∙ ap (λ xs. xs ++ take 1 left) w.onto_is ∙ ap (λ xs. (qs ++ take i ps) ++ take 1 xs) w.left_is ∙ append_assoc qs (take i ps) (take 1 (drop i ps)) ∙ ap (λ xs. qs ++ xs) (take_on ps i)
          ∙ ap (λ k. qs ++ take k ps) next;
      memory_is = t ∙ ap (λ xs. copy_memory (slice_get xs 0) then) w.left_is ∙ ap (copy_memory (slice_get (drop i ps) 0)) w.memory_is ∙ sym (copied_more ps i m h) ∙ ap (λ k. copied_each (take k ps) m) next;
      still = omega arith;
    }

-- it stops at a parcel that does not fit
pub way_stops : (z y : Sizes) (ps qs : List (List ℕ)) (m : List ℕ) (i : ℕ) (left onto : List (List ℕ)) (then : List ℕ) (left' onto' : List (List ℕ)) (then' : List ℕ) → i < length ps
    → OnTheWay z ps qs m i left onto then → y ≡ z → length then ≡ length m → false ≡ first_passes y (length then) onto left
    → left' ≡ left → onto' ≡ onto → then' ≡ copy_memory (slice_get left 0) then
    → MovedOn z ps qs m i left' onto' then'
way_stops z y ps qs m i left onto then left' onto' then' h w u v e l o t =
    let next : suc i ≡ i + 1 = omega arith in
    let stop = movable_stop z (length m) onto left (way_passes false z y (length m) (length then) onto left u v e) in
    let still = w.still in
    record {
      count_is = omega arith;
      left_is = l ∙ w.left_is;
      onto_is = o ∙ w.onto_is;
      memory_is = t ∙ ap (λ xs. copy_memory (slice_get xs 0) then) w.left_is ∙ ap (copy_memory (slice_get (drop i ps) 0)) w.memory_is ∙ sym (copied_more ps i m h) ∙ ap (λ k. copied_each (take k ps) m) next;
    }
