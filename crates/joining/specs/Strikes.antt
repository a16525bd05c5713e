-- What is left of a list of items once a group's strikes are done.
use Rattle.std.specs.Prelude.{◌≡◌, ℕ, Bool, false, not, List, filter}
use Rattle.std.specs.List.{AllByRecursion}
use Rattle.stores.specs.Items.{Item, in_part}
use Rattle.groups.specs.Groups.{Group}
use Rattle.joining.specs.Questions.{struck}

-- the item's dot is not struck by the group
abbrev pub spared : Group → Item → Bool
spared h x = not (struck h x.dot)

-- the items that the group does not strike
abbrev pub remaining : Group → List Item → List Item
remaining h xs = filter (spared h) xs

-- no item of the part is struck by the group
abbrev pub Unstruck : Group → ℕ → List Item → Type 0
Unstruck h p xs = AllByRecursion (λ x. struck h x.dot ≡ false) (filter (in_part p) xs)
