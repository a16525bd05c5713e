-- What a shelf holds, when a call is refused, and what a call answers and leaves.
-- A parcel is a list of bytes, and a shelf holds a list of parcels.
use Rattle.std.specs.Prelude.{◌≡◌, ℕ, ◌+◌, ◌*◌, ◌/◌, ◌%◌, ◌≤◌, Bool, true, cond, ◌&&◌, ◌||◌, List, [], ◌∷◌, ◌++◌, length, take, drop, replicate, Some, None, Ok, Err, Option, Result, ◌==◌, nat_le, nat_lt}
use Rattle.std.specs.List.{remove, AllByRecursion, AllByRecursion-prop}
use Rattle.std.specs.Coded.{le_prop}
use mathlib.Core.Bool.{Bool-set}
use Rattle.refusals.specs.declared.Refusal.{Refusal}
use Rattle.refusals.specs.Table.{refused}
use Rattle.shelves.specs.declared.fault.ShelfFault.{ShelfFault}
use Rattle.shelves.specs.declared.fault.ShelfFault.TheVariants.{NoParcel, MemoryShort, Full, NotRecords}

-- the fixed numbers of a shelf: the most parcels, the most records in one parcel, and the most records in all
pub record Sizes : Type 0 where
  pub most : ℕ
  pub longest : ℕ
  pub room : ℕ

-- the one table of a shelf's refusals
abbrev pub shelf_fault : ShelfFault → Refusal
shelf_fault (NoParcel position) = refused 11 position
shelf_fault (MemoryShort needed) = refused 12 needed
shelf_fault (Full records) = refused 13 records
shelf_fault (NotRecords length) = refused 14 length

-- how many records a parcel has, at 24 bytes each
abbrev pub records : List ℕ → ℕ
records parcel = length parcel / 24

-- how many records there are in all the parcels
abbrev pub held : List (List ℕ) → ℕ
held [] = 0
held (p ∷ ps) = records p + held ps

-- a parcel of this many bytes has at least one record, and no part of one
abbrev pub whole : ℕ → Bool
whole n = nat_lt 0 n && n % 24 == 0

-- there is no room for n records more, where `count` parcels hold `used` records
abbrev pub crowded : Sizes → ℕ → ℕ → ℕ → Bool
crowded z count used n = nat_le z.most count || (nat_lt z.longest n || nat_lt z.room (used + n))

-- what is wrong with a parcel of `bytes` bytes for a shelf on which `count` parcels hold `used` records
abbrev pub misfit : Sizes → ℕ → ℕ → ℕ → Option Refusal
misfit z count used bytes =
    cond (whole bytes) (cond (crowded z count used (bytes / 24)) (Some (refused 13 (bytes / 24))) None) (Some (refused 14 bytes))

-- `new` where nothing was refused, and `old` where something was
abbrev pub unless : {X : Type 0} → Option Refusal → X → X → X
unless None new old = new
unless (Some r) new old = old

-- appending: what is refused, and the parcels after it
abbrev pub append_refusal : Sizes → List (List ℕ) → List ℕ → Option Refusal
append_refusal z ps p = misfit z (length ps) (held ps) (length p)

abbrev pub after_append : Sizes → List (List ℕ) → List ℕ → List (List ℕ)
after_append z ps p = unless (append_refusal z ps p) (ps ++ p ∷ []) ps

-- removing: what is refused, and the parcels after it
abbrev pub remove_refusal : List (List ℕ) → ℕ → Option Refusal
remove_refusal ps position = cond (nat_lt position (length ps)) None (Some (refused 11 position))

abbrev pub after_remove : List (List ℕ) → ℕ → List (List ℕ)
after_remove ps position = unless (remove_refusal ps position) (remove ps position) ps

-- what is said of the parcel at a position, which is `nth parcels position`: its bytes; 0 where there is none
abbrev pub length_of : Option (List ℕ) → ℕ
length_of None = 0
length_of (Some p) = length p

-- one record of it: 24 bytes, all 0 where there is none
abbrev pub record_of : Option (List ℕ) → ℕ → List ℕ
record_of None index = replicate 24 0
record_of (Some p) index = cond (nat_lt index (records p)) (take 24 (drop (24 * index) p)) (replicate 24 0)

-- copying it into `size` bytes of memory: what is answered
abbrev pub copy_answer : Option (List ℕ) → ℕ → ℕ → Result ℕ Refusal
copy_answer None position size = Err (refused 11 position)
copy_answer (Some p) position size = cond (nat_le (length p) size) (Ok (length p)) (Err (refused 12 (length p)))

-- and what the memory then holds: the parcel, and what lay past it
abbrev pub copy_memory : Option (List ℕ) → List ℕ → List ℕ
copy_memory None memory = memory
copy_memory (Some p) memory = cond (nat_le (length p) (length memory)) (p ++ drop (length p) memory) memory

-- an answer, with the refusal in place of the fault
abbrev pub told : {X : Type 0} → Result X ShelfFault → Result X Refusal
told (Ok x) = Ok x
told (Err f) = Err (shelf_fault f)

-- the refusal in an answer
abbrev pub refusal : {X : Type 0} → Result X ShelfFault → Option Refusal
refusal (Ok x) = None
refusal (Err f) = Some (shelf_fault f)

-- what holds of the parcels on every shelf of these sizes
pub record Within (z : Sizes) (ps : List (List ℕ)) : Type 0 where
  pub few : length ps ≤ z.most
  pub whole : AllByRecursion (λ p. whole (length p) ≡ true) ps
  pub short : AllByRecursion (λ p. records p ≤ z.longest) ps
  pub held : held ps ≤ z.room

-- which has one proof at most
pub Within-prop : (z : Sizes) (ps : List (List ℕ)) → IsProp (Within z ps)
Within-prop z ps x y = λ i. record {
  few = le_prop x.few y.few i;
  whole = AllByRecursion-prop (λ p. whole (length p) ≡ true) (λ p. Bool-set _ _) ps x.whole y.whole i;
  short = AllByRecursion-prop (λ p. records p ≤ z.longest) (λ p. le_prop) ps x.short y.short i;
  held = le_prop x.held y.held i;
}
