-- What walks over a store's entries give.
use Rattle.std.specs.Prelude.{ℕ, Bool, List, [], ◌∷◌, map, length, filter}
use Rattle.causal.specs.declared.places.Place.{Place}
use Rattle.causal.specs.Places.{is_under}
use Rattle.kinds.specs.Kinds.{ValueKind}
use Rattle.stores.specs.declared.entries.Entry.{Entry}
use Rattle.stores.specs.Items.{Item, in_part, entry_of}
use Rattle.stores.specs.Puts.{put_after}

-- one item after another, put into a part
abbrev pub put_each : List ValueKind → List ℕ → ℕ → List Item → List Item → List Item
put_each ks caps p xs [] = xs
put_each ks caps p xs (y ∷ ys) = put_each ks caps p (put_after ks caps xs p (entry_of y)) ys

-- the entries of a part, in order
abbrev pub entries_in : ℕ → List Item → List (Entry ℕ)
entries_in p xs = map entry_of (filter (in_part p) xs)

-- the item stands at the place or below it
unfoldable pub lies_under : Place → Item → Bool
lies_under place x = is_under x.place place

-- how many items of a part stand under the place
abbrev pub count_under : ℕ → Place → List Item → ℕ
count_under p place xs = length (filter (lies_under place) (filter (in_part p) xs))
