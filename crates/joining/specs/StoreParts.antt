-- One part of a store, read as a group.
use Rattle.std.specs.Prelude.{◌≡◌, ℕ, ◌≤◌, List, [], filter, refl}
use Rattle.std.proofs.Common.{arith}
use Rattle.groups.specs.Groups.{Group}
use Rattle.sources.specs.Sources.{Readable, book}
use Rattle.stores.specs.Items.{Item, in_part}

-- the entries of the part, and no runs
abbrev pub part_of : ℕ → List Item → Group
part_of p xs = book (filter (in_part p) xs) []

-- it can be read
pub part_readable : (p : ℕ) (xs : List Item) → Readable (part_of p xs)
part_readable p xs = record { one_form = refl; few = omega arith }
