-- What a store holds, as a list of items, and what each call does to the list.
use Rattle.std.specs.Prelude.{◌≡◌, ℕ, Bool, true, false, cond, not, ◌&&◌, ◌||◌, List, [], ◌∷◌, map, length, Some, None, filter, Option, ◌==◌, nat_lt}
use Rattle.std.specs.List.{AllByRecursion, slice_get}
use Rattle.causal.specs.declared.dots.Dot.{Dot}
use Rattle.causal.specs.declared.places.Place.{Place}
use Rattle.causal.specs.Dots.{same_dot, dot_less}
use Rattle.causal.specs.Places.{same_place, place_less}
use Rattle.kinds.specs.Kinds.{ValueKind}
use Rattle.stores.specs.declared.entries.Entry.{Entry}

-- one entry of a store, with its part, and its value as a code
pub record Item : Type 0 where
  pub part : ℕ
  pub place : Place
  pub dot : Dot
  pub code : ℕ

-- an entry of a part, whose values have codes
abbrev pub item_of : {V : Type 0} → (V → ℕ) → ℕ → Entry V → Item
item_of coded p e = record { part = p; place = e.place; dot = e.dot; code = coded e.value }

-- an entry whose value is its code
abbrev pub item_at : ℕ → Entry ℕ → Item
item_at p e = item_of (λ n. n) p e

-- an item without its part
abbrev pub entry_of : Item → Entry ℕ
entry_of x = record { place = x.place; dot = x.dot; value = x.code }

-- by place, then by dot
abbrev pub spot_less : Place → Dot → Place → Dot → Bool
spot_less p d q e = place_less p q || (same_place p q && dot_less d e)

-- x stands before y: by part, then by place, then by dot
abbrev pub precedes : Item → Item → Bool
precedes x y = nat_lt x.part y.part || (x.part == y.part && spot_less x.place x.dot y.place y.dot)

-- each stands before all after it
abbrev pub Ascends : List Item → Type 0
Ascends [] = Unit {0}
Ascends (x ∷ xs) = AllByRecursion (λ y. precedes x y ≡ true) xs × Ascends xs

-- the item has this dot
abbrev pub has_dot : Dot → Item → Bool
has_dot d x = same_dot x.dot d

-- no dot stands twice
abbrev pub Apart : List Item → Type 0
Apart [] = Unit {0}
Apart (x ∷ xs) = AllByRecursion (λ y. has_dot x.dot y ≡ false) xs × Apart xs

-- some item has the dot
abbrev pub stands : Dot → List Item → Bool
stands d [] = false
stands d (x ∷ xs) = has_dot d x || stands d xs

-- the first item with the dot
abbrev pub find : Dot → List Item → Option Item
find d [] = None
find d (x ∷ xs) = cond (has_dot d x) (Some x) (find d xs)

-- the item is of this part
abbrev pub in_part : ℕ → Item → Bool
in_part p x = x.part == p

-- how many items the part has
abbrev pub count_part : ℕ → List Item → ℕ
count_part p xs = length (filter (in_part p) xs)

-- the item at position n of the part
abbrev pub entry_at : ℕ → ℕ → List Item → Option Item
entry_at p n xs = slice_get (filter (in_part p) xs) n

-- x before the first that does not stand before it
abbrev pub insert_item : Item → List Item → List Item
insert_item x [] = x ∷ []
insert_item x (y ∷ ys) = cond (precedes y x) (y ∷ insert_item x ys) (x ∷ y ∷ ys)

-- x with another code
abbrev pub recode : Item → ℕ → Item
recode x c = record { part = x.part; place = x.place; dot = x.dot; code = c }

-- y with the code of x joined to its own, where both stand at one part and place
abbrev pub merge : ValueKind → Item → Item → Item
merge k x y = cond (y.part == x.part && same_place y.place x.place) (recode y (k.join y.code x.code)) y

-- y, merged with x where they have one dot
abbrev pub merge_dot : ValueKind → Item → Item → Item
merge_dot k x y = cond (has_dot x.dot y) (merge k x y) y

-- an absent dot goes in, in order; one that stands at that part and place is joined; one that stands elsewhere stays
abbrev pub put_items : ValueKind → Item → List Item → List Item
put_items k x xs = cond (stands x.dot xs) (map (merge_dot k x) xs) (insert_item x xs)

-- all but the item with the dot
abbrev pub strike_items : Dot → List Item → List Item
strike_items d xs = filter (λ x. not (has_dot d x)) xs
