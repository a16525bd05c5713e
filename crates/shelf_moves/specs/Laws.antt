-- What appending and removing do to the positions of parcels.
use Rattle.std.specs.Prelude.{◌≡◌, ℕ, ◌+◌, ◌<◌, ◌≤◌, List, length, Some, None}
use Rattle.std.specs.List.{slice_get}
use Rattle.refusals.specs.declared.Refusal.{Refusal}
use Rattle.shelves.specs.Parcels.{Sizes, append_refusal, after_append, remove_refusal, after_remove}

pub record OrderKept : Type 0 where
  -- what is appended stands at the end
  pub appended : (z : Sizes) (ps : List (List ℕ)) (p : List ℕ) → append_refusal z ps p ≡ None → slice_get (after_append z ps p) (length ps) ≡ Some p
  -- and the others stand where they stood
  pub others : (z : Sizes) (ps : List (List ℕ)) (p : List ℕ) (i : ℕ) → i < length ps → slice_get (after_append z ps p) i ≡ slice_get ps i
  -- those before a removed parcel stand where they stood
  pub before : (ps : List (List ℕ)) (at i : ℕ) → i < at → slice_get (after_remove ps at) i ≡ slice_get ps i
  -- and those after it one place further to the front
  pub behind : (ps : List (List ℕ)) (at i : ℕ) → at < length ps → at ≤ i → slice_get (after_remove ps at) i ≡ slice_get ps (i + 1)
  -- one parcel less
  pub fewer : (ps : List (List ℕ)) (at : ℕ) → at < length ps → length (after_remove ps at) + 1 ≡ length ps
  -- a refusal changes nothing
  pub append_refused : (z : Sizes) (ps : List (List ℕ)) (p : List ℕ) (r : Refusal) → append_refusal z ps p ≡ Some r → after_append z ps p ≡ ps
  pub remove_refused : (ps : List (List ℕ)) (at : ℕ) (r : Refusal) → remove_refusal ps at ≡ Some r → after_remove ps at ≡ ps
