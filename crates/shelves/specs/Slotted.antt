-- Slots: parcels that lie each in a slot of its own, all of one size, in lent memory.
use Rattle.std.specs.Prelude.{ℕ, ◌+◌, ◌-◌, ◌*◌, ◌/◌, ◌<◌, ◌≤◌, min, max, List, map, length, take, ◌≢◌, slice_index}
use Rattle.std.specs.Coded.{le_prop}
use Rattle.shelves.specs.declared.extent.Extent.{Extent}
use Rattle.shelves.specs.Extents.{bytes_at}
use Rattle.shelves.specs.Layout.{byte}
use Rattle.shelves.specs.Parcels.{Sizes, Within, Within-prop}

-- the records of a slot: 0 counts as 1
abbrev pub slot_size : ℕ → ℕ
slot_size size = max size 1

-- how many slots there are in n bytes: no more than 128
abbrev pub slot_count : ℕ → ℕ → ℕ
slot_count n size = min 128 (n / (24 * slot_size size))

-- the numbers of slots over n bytes
abbrev pub slot_sizes : ℕ → ℕ → Sizes
slot_sizes n size = record { most = slot_count n size; longest = slot_size size; room = slot_count n size * slot_size size }

-- how many of n bytes the slots use
abbrev pub slot_room : ℕ → ℕ → ℕ
slot_room n size = 24 * (slot_count n size * slot_size size)

-- parcels that lie each in a slot, where f gives the byte at each place
abbrev pub slotted : (ℕ → ℕ) → List Extent → ℕ → List (List ℕ)
slotted f slots count = map (bytes_at f) (take count slots)

abbrev pub slot_parcels : List ℕ → List Extent → ℕ → List (List ℕ)
slot_parcels bytes slots count = slotted (byte bytes (length bytes) 0) slots count

-- the first place of each slot
abbrev pub slot_starts : List Extent → List ℕ
slot_starts slots = map (λ e. e.from) slots

-- `most` slots of `step` bytes each, from the places in `starts` on, end within `room`, and begin so far from each other that they do not meet
pub record Disjoint (starts : List ℕ) (most step room : ℕ) : Type 0 where
  pub inside : (i : ℕ) → i < most → slice_index starts i + step ≤ room
  pub apart : (i j : ℕ) → i < most → j < most → (i ≢ j) → step ≤ (slice_index starts i - slice_index starts j) + (slice_index starts j - slice_index starts i)

-- what holds of all slots
pub record SoundSlots (bytes : List ℕ) (size : ℕ) (slots : List Extent) (count : ℕ) : Type 0 where
  pub apart : Disjoint (slot_starts slots) (slot_count (length bytes) size) (24 * slot_size size) (slot_room (length bytes) size)
  pub listed : count ≤ length slots
  pub within : Within (slot_sizes (length bytes) size) (slot_parcels bytes slots count)

-- which has one proof at most
pub Disjoint-prop : (starts : List ℕ) (most step room : ℕ) → IsProp (Disjoint starts most step room)
Disjoint-prop starts most step room x y = λ i. record {
  inside = λ j h. le_prop (x.inside j h) (y.inside j h) i;
  apart = λ j k h l ne. le_prop (x.apart j k h l ne) (y.apart j k h l ne) i;
}

pub SoundSlots-prop : (bytes : List ℕ) (size : ℕ) (slots : List Extent) (count : ℕ) → IsProp (SoundSlots bytes size slots count)
SoundSlots-prop bytes size slots count x y = λ i. record {
  apart = Disjoint-prop (slot_starts slots) (slot_count (length bytes) size) (24 * slot_size size) (slot_room (length bytes) size) x.apart y.apart i;
  listed = le_prop x.listed y.listed i;
  within = Within-prop (slot_sizes (length bytes) size) (slot_parcels bytes slots count) x.within y.within i;
}
