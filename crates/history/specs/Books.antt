-- Items put and dots struck, and the book that they come to: a dot lives if it is put and never struck, its code the join of all
-- codes put; the context is all dots put or struck. No groups are joined here.
use Rattle.std.specs.Prelude.{not, List, [], ◌∷◌, ◌++◌, Some, None, filter, Option}
use Rattle.std.specs.List.{slice_get}
use Rattle.causal.specs.declared.dots.Dot.{Dot}
use Rattle.kinds.specs.Kinds.{ValueKind}
use Rattle.stores.specs.Items.{Item, find, insert_item, strike_items, recode}
use Rattle.groups.specs.Groups.{Group, join_codes}
use Rattle.reading.specs.Reading.{among, dots_of}
use Rattle.calls.specs.Actions.{runs_for}

-- the item, its code joined with that of another one, if there is one
abbrev pub over : List ValueKind → Item → Option Item → Item
over ks x None = x
over ks x (Some y) = recode x (join_codes (slice_get ks x.part) x.code y.code)

-- the items put, in order, those put at one dot made one
abbrev pub gathered : List ValueKind → List Item → List Item
gathered ks [] = []
gathered ks (x ∷ xs) = insert_item (over ks x (find x.dot (gathered ks xs))) (strike_items x.dot (gathered ks xs))

-- those whose dot is not struck
abbrev pub without : List Dot → List Item → List Item
without strikes xs = filter (λ x. not (among x.dot strikes)) xs

abbrev pub book_of : List ValueKind → List Item → List Dot → Group
book_of ks puts strikes = record { items = without strikes (gathered ks puts); runs = runs_for (dots_of puts ++ strikes) }
