-- How bytes lie in lent memory, round its end.
use Rattle.std.specs.Prelude.{ℕ, zero, suc, ◌+◌, ◌-◌, cond, List, [], ◌∷◌, map, nat_lt, slice_index, slice_set}
use Rattle.std.specs.List.{range_with_len}

-- the place i places on from `start`, round the end of `room` places
unfoldable pub turn : ℕ → ℕ → ℕ → ℕ
turn room start i = cond (nat_lt i (room - start)) (start + i) (i - (room - start))

-- the byte i places on from `start`
abbrev pub byte : List ℕ → ℕ → ℕ → ℕ → ℕ
byte bytes room start i = slice_index bytes (turn room start i)

-- `count` bytes, from the one `from` places on
abbrev pub stretch : List ℕ → ℕ → ℕ → ℕ → ℕ → List ℕ
stretch bytes room start from count = map (byte bytes room start) (range_with_len from count)

-- the bytes after `news` is written `from` places on, byte by byte
abbrev pub laid : List ℕ → ℕ → ℕ → ℕ → List ℕ → List ℕ
laid bytes room start from [] = bytes
laid bytes room start from (b ∷ news) = laid (slice_set bytes (turn room start from) b) room start (from + 1) news

-- the bytes after `count` of them, `gap` past `at`, are moved down to `at`, byte by byte
abbrev pub slid : List ℕ → ℕ → ℕ → ℕ → ℕ → ℕ → List ℕ
slid bytes room start at gap zero = bytes
slid bytes room start at gap (suc count) = slid (slice_set bytes (turn room start at) (byte bytes room start (at + gap))) room start (at + 1) gap count

-- parcels that lie one after another, where f gives the byte at each place: the first from `from` on, each as long as its number
abbrev pub pieces : (ℕ → ℕ) → ℕ → List ℕ → List (List ℕ)
pieces f from [] = []
pieces f from (l ∷ ls) = map f (range_with_len from l) ∷ pieces f (from + l) ls
