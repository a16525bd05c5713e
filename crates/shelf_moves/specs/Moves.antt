-- Parcels that are moved from one shelf to another, through lent memory.
use Rattle.std.specs.Prelude.{◌≡◌, ℕ, suc, ◌+◌, Bool, false, cond, not, ◌&&◌, List, [], ◌∷◌, ◌++◌, length, take, drop, is_some, Some, None, Ok, Err, Option, Result, nat_le}
use Rattle.refusals.specs.declared.Refusal.{Refusal}
use Rattle.refusals.specs.Table.{refused}
use Rattle.shelves.specs.Parcels.{Sizes, append_refusal, copy_memory}

-- a parcel fits `size` bytes of memory, and a shelf of these sizes that holds `to`
abbrev pub passes : Sizes → ℕ → List (List ℕ) → List ℕ → Bool
passes z size to p = nat_le (length p) size && not (is_some (append_refusal z to p))

-- so does the first of some parcels
abbrev pub first_passes : Sizes → ℕ → List (List ℕ) → List (List ℕ) → Bool
first_passes z size to [] = false
first_passes z size to (p ∷ ps) = passes z size to p

-- how many parcels can be moved to a shelf that holds `to`, one after another
abbrev pub movable : Sizes → ℕ → List (List ℕ) → List (List ℕ) → ℕ
movable z size to [] = 0
movable z size to (p ∷ ps) = cond (passes z size to p) (suc (movable z size (to ++ p ∷ []) ps)) 0

-- memory after parcels were copied to its front, one after another
abbrev pub copied_each : List (List ℕ) → List ℕ → List ℕ
copied_each [] memory = memory
copied_each (p ∷ ps) memory = copied_each ps (copy_memory (Some p) memory)

-- what became of two shelves and of the memory, when `count` parcels were moved: `left` is then on the one and `onto` on the other
pub record MovedOn (z : Sizes) (from to : List (List ℕ)) (memory : List ℕ) (count : ℕ) (left onto : List (List ℕ)) (then : List ℕ) : Type 0 where
  pub count_is : count ≡ movable z (length memory) to from
  pub left_is : left ≡ drop count from
  pub onto_is : onto ≡ to ++ take count from
  -- each moved parcel passed through the memory, and the next one, if any, was tried
  pub memory_is : then ≡ copied_each (take (count + 1) from) memory

-- a parcel appended, where nothing was refused, and copied back into `size` bytes: what is answered
abbrev pub append_and_copy_answer : Option Refusal → List ℕ → ℕ → Result ℕ Refusal
append_and_copy_answer (Some r) parcel size = Err r
append_and_copy_answer None parcel size = cond (nat_le (length parcel) size) (Ok (length parcel)) (Err (refused 12 (length parcel)))

-- the first of some parcels fits `size` bytes of memory
abbrev pub first_fits : ℕ → List (List ℕ) → Bool
first_fits size [] = false
first_fits size (p ∷ ps) = nat_le (length p) size
