-- A ring: parcels that lie one after another in lent memory, round its end.
use Rattle.std.specs.Prelude.{ℕ, ◌*◌, ◌/◌, ◌≤◌, List, length, take}
use Rattle.shelves.specs.Layout.{byte, pieces}
use Rattle.std.specs.Coded.{le_prop}
use Rattle.shelves.specs.Parcels.{Sizes, Within, Within-prop}

-- its numbers over n bytes
abbrev pub ring_sizes : ℕ → Sizes
ring_sizes n = record { most = 128; longest = n / 24; room = n / 24 }

-- how many of n bytes it uses: the whole records
abbrev pub ring_room : ℕ → ℕ
ring_room n = 24 * (n / 24)

-- its parcels: the first begins at `start`, and `lengths` has the bytes of each
abbrev pub ring_parcels : List ℕ → ℕ → List ℕ → ℕ → List (List ℕ)
ring_parcels bytes start lengths count = pieces (byte bytes (ring_room (length bytes)) start) 0 (take count lengths)

-- what holds of every ring
pub record SoundRing (bytes : List ℕ) (start : ℕ) (lengths : List ℕ) (count : ℕ) : Type 0 where
  pub begins : start ≤ ring_room (length bytes)
  pub listed : count ≤ length lengths
  pub within : Within (ring_sizes (length bytes)) (ring_parcels bytes start lengths count)

-- which has one proof at most
pub SoundRing-prop : (bytes : List ℕ) (start : ℕ) (lengths : List ℕ) (count : ℕ) → IsProp (SoundRing bytes start lengths count)
SoundRing-prop bytes start lengths count x y = λ i. record {
  begins = le_prop x.begins y.begins i;
  listed = le_prop x.listed y.listed i;
  within = Within-prop (ring_sizes (length bytes)) (ring_parcels bytes start lengths count) x.within y.within i;
}
