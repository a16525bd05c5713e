-- Bits that say which dots have come.
use Rattle.std.specs.Prelude.{◌≡◌, ℕ, ◌+◌, ◌*◌, ◌/◌, ◌%◌, ◌^◌, Bool, true, List, ◌==◌, slice_index}
use Rattle.std.specs.List.{AllByRecursion}
use Rattle.causal.specs.declared.dots.Dot.{Dot}

-- the number of a dot's bit, of 1,048,576
abbrev pub bit_of : Dot → ℕ
bit_of d = (d.counter * 16 + d.replica) % 1048576

-- the bit with this number is set; a byte has eight
unfoldable pub is_set : List ℕ → ℕ → Bool
is_set bytes bit = slice_index bytes (bit / 8) / 2 ^ (bit % 8) % 2 == 1

-- the bits of all these dots are set
abbrev pub AllSet : List ℕ → List Dot → Type 0
AllSet bytes ds = AllByRecursion (λ d. is_set bytes (bit_of d) ≡ true) ds
