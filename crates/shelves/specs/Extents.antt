-- The bytes of a parcel, by where it lies.
use Rattle.std.specs.Prelude.{◌≡◌, ℕ, ◌<◌, List, map, length, take, option_map, sum, Option, slice_index}
use Rattle.std.specs.List.{range_with_len}
use Rattle.shelves.specs.declared.extent.Extent.{Extent}

-- where f gives the byte at each place
abbrev pub bytes_at : (ℕ → ℕ) → Extent → List ℕ
bytes_at f e = map f (range_with_len e.from e.length)

-- of a parcel that may be missing
abbrev pub parcel_in : (ℕ → ℕ) → Option Extent → Option (List ℕ)
parcel_in f = option_map (bytes_at f)

-- the place of the parcel at a position, of those that lie one after another
pub record Placed (lengths : List ℕ) (position : ℕ) (e : Extent) : Type 0 where
  pub before : position < length lengths
  pub from : e.from ≡ sum (take position lengths)
  pub length : e.length ≡ slice_index lengths position
