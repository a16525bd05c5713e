-- Positions after a parcel is appended or removed.
use Rattle.std.proofs.Common.{◌≡◌, ℕ, zero, suc, ◌+◌, ◌<◌, ◌≤◌, List, [], ◌∷◌, ◌++◌, length, Some, None, Option, refl, ap, ◌∙◌, arith}
use Rattle.std.specs.List.{remove, slice_get}
use Rattle.refusals.specs.declared.Refusal.{Refusal}
use Rattle.shelves.specs.Parcels.{unless}

pub nth_end : (ps : List (List ℕ)) (p : List ℕ) → slice_get (ps ++ p ∷ []) (length ps) ≡ Some p
nth_end [] p = refl
nth_end (q ∷ ps) p = nth_end ps p

nth_inside : (ps qs : List (List ℕ)) (i : ℕ) → i < length ps → slice_get (ps ++ qs) i ≡ slice_get ps i
nth_inside [] qs i h = absurd (omega arith)
nth_inside (p ∷ ps) qs zero h = refl
nth_inside (p ∷ ps) qs (suc i) h = nth_inside ps qs i (omega arith)

pub nth_either : (o : Option Refusal) (ps qs : List (List ℕ)) (i : ℕ) → i < length ps → slice_get (unless o (ps ++ qs) ps) i ≡ slice_get ps i
nth_either None ps qs i h = nth_inside ps qs i h
nth_either (Some r) ps qs i h = refl

pub nth_below : (ps : List (List ℕ)) (at i : ℕ) → i < at → slice_get (remove ps at) i ≡ slice_get ps i
nth_below [] zero i h = refl
nth_below [] (suc at) i h = refl
nth_below (p ∷ ps) zero i h = absurd (omega arith)
nth_below (p ∷ ps) (suc at) zero h = refl
nth_below (p ∷ ps) (suc at) (suc i) h = nth_below ps at i (omega arith)

nth_next : (ps : List (List ℕ)) (at i : ℕ) → at < length ps → at ≤ i → slice_get (remove ps at) i ≡ slice_get ps (suc i)
nth_next [] at i h l = absurd (omega arith)
nth_next (p ∷ ps) zero i h l = refl
nth_next (p ∷ ps) (suc at) zero h l = absurd (omega arith)
nth_next (p ∷ ps) (suc at) (suc i) h l = nth_next ps at i (omega arith) (omega arith)

pub nth_above : (ps : List (List ℕ)) (at i : ℕ) → at < length ps → at ≤ i → slice_get (remove ps at) i ≡ slice_get ps (i + 1)
nth_above ps at i h l = let e : suc i ≡ i + 1 = omega arith in nth_next ps at i h l ∙ ap (slice_get ps) e
