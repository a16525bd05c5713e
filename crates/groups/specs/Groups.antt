-- Groups: what one is, what it says of a dot, and the join of two.
use Rattle.std.specs.Prelude.{◌≡◌, ℕ, Bool, true, false, cond, ◌&&◌, List, [], ◌∷◌, Some, None, fold, Option, ◌==◌}
use Rattle.std.specs.List.{slice_get, AllByRecursion}
use Rattle.causal.specs.declared.dots.Dot.{Dot}
use Rattle.causal.specs.declared.runs.Run.{Run}
use Rattle.causal.specs.Places.{same_place}
use Rattle.kinds.specs.Kinds.{ValueKind}
use Rattle.causal.specs.Runs.{has, union, canonical}
use Rattle.stores.specs.Items.{Item, Ascends, Apart, find, insert_item, recode}
use Rattle.stores.specs.Sound.{Proper}

-- items, and the runs of the dots that are known: those of the items and those of items that were struck
pub record Group : Type 0 where
  pub items : List Item
  pub runs : List Run

-- no items, and no dot known
abbrev pub empty : Group
empty = record { items = []; runs = [] }

-- the item's dot is in the runs
abbrev pub Known : List Run → Item → Type 0
Known rs x = has rs x.dot ≡ true

-- runs in their one form, items in order with no dot twice, each proper and at a known dot
pub record Formed (ks : List ValueKind) (g : Group) : Type 0 where
  pub one_form : canonical g.runs ≡ true
  pub ascends : Ascends g.items
  pub apart : Apart g.items
  pub proper : AllByRecursion (Proper ks) g.items
  pub known : AllByRecursion (Known g.runs) g.items

-- what a group says of a dot: nothing, that its item was struck, or its item
pub data Fate : Type 0 where
  unknown : Fate
  dead : Fate
  live : Item → Fate

-- from the item found at the dot, if any, and whether the dot is known
abbrev pub fate_of : Option Item → Bool → Fate
fate_of (Some x) known = live x
fate_of None true = dead
fate_of None false = unknown

-- live where an item has the dot, else dead where a run has it
abbrev pub fate : Group → Dot → Fate
fate g d = fate_of (find d g.items) (has g.runs d)

-- two codes joined by the part's kind; a part that is not there keeps the left's
abbrev pub join_codes : Option ValueKind → ℕ → ℕ → ℕ
join_codes None a b = a
join_codes (Some k) a b = k.join a b

-- at one part and place
abbrev pub one_spot : Item → Item → Bool
one_spot x y = x.part == y.part && same_place x.place y.place

-- what two items at one dot become: at one part and place the codes joined by the part's kind, elsewhere the left's item
unfoldable pub meet : List ValueKind → Item → Item → Item
meet ks x y = recode x (cond (one_spot x y) (join_codes (slice_get ks x.part) x.code y.code) x.code)

-- the left's x, where the right has o at its dot and knows the dot or not
abbrev pub settle : List ValueKind → Item → Option Item → Bool → Option Item
settle ks x (Some y) known = Some (meet ks x y)
settle ks x None true = None
settle ks x None false = Some x

-- the left's x stays, perhaps with another code, unless the right knows its dot and has no item there
abbrev pub stays : List ValueKind → Group → Item → Option Item
stays ks h x = settle ks x (find x.dot h.items) (has h.runs x.dot)

-- the right's y comes where the left does not know its dot
abbrev pub comes : Group → Item → Option Item
comes g y = cond (has g.runs y.dot) None (Some y)

-- the item, if there is one, before the rest
abbrev pub lead : Option Item → List Item → List Item
lead None xs = xs
lead (Some x) xs = x ∷ xs

-- what the function leaves of each item
abbrev pub keep : (Item → Option Item) → List Item → List Item
keep f [] = []
keep f (x ∷ xs) = lead (f x) (keep f xs)

-- each item inserted in its order
abbrev pub insert_items : List Item → List Item → List Item
insert_items [] xs = xs
insert_items (y ∷ ys) xs = insert_item y (insert_items ys xs)

-- the left's items that stay with the right's that come, and all dots that either knows
abbrev pub joined : List ValueKind → Group → Group → Group
joined ks g h = record { items = insert_items (keep (comes g) h.items) (keep (stays ks h) g.items); runs = union g.runs h.runs }

-- the groups joined in order, from empty
abbrev pub joined_all : List ValueKind → List Group → Group
joined_all ks gs = fold (joined ks) empty gs

-- unknown gives way, dead wins, two live ones meet
abbrev pub join_fates : List ValueKind → Fate → Fate → Fate
join_fates ks unknown f = f
join_fates ks dead unknown = dead
join_fates ks dead dead = dead
join_fates ks dead (live y) = dead
join_fates ks (live x) unknown = live x
join_fates ks (live x) dead = dead
join_fates ks (live x) (live y) = live (meet ks x y)

-- what the join has at a dot, from whether left and right know the dot and what each has there:
-- an item lives if both have it, or if one has it and the other does not know its dot
abbrev pub join_found : List ValueKind → Bool → Bool → Option Item → Option Item → Option Item
join_found ks left right None None = None
join_found ks left right None (Some y) = cond left None (Some y)
join_found ks left right (Some x) None = cond right None (Some x)
join_found ks left right (Some x) (Some y) = Some (meet ks x y)

-- no dot stands in both at different parts or places
abbrev pub Level : Group → Group → Type 0
Level g h = (d : Dot) (x y : Item) → find d g.items ≡ Some x → find d h.items ≡ Some y → (x.part ≡ y.part) × (x.place ≡ y.place)
