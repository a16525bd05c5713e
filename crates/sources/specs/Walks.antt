-- Walks over the entries of a group.
use Rattle.std.specs.Prelude.{◌≡◌, ℕ, ◌+◌, ◌^◌, ◌<◌, ◌≤◌, List, length, Some, Option, MatchOption}
use Rattle.std.specs.List.{slice_get}
use Rattle.records.specs.declared.record.PartEntry.{PartEntry}
use Rattle.reading.specs.Reading.{item_in}
use Rattle.stores.specs.Items.{Item}

-- the entry at i was given, and the one at j comes next
pub record Given (sound : Type 0) (xs : List Item) (i j : ℕ) (e : PartEntry) : Type 0 where
  pub moved : j ≡ i + 1
  pub fits : j < 2 ^ 64
  pub here : sound → Some (item_in e) ≡ slice_get xs i

-- a walk over the items that stands at i gives the one there and goes on to j, or, past the last, none
abbrev pub GivesEntry : Type 0 → List Item → ℕ → Option PartEntry → ℕ → Type 0
GivesEntry sound xs i o j = MatchOption o (sound → length xs ≤ i) (Given sound xs i j)
