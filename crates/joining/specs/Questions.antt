-- What can be asked of a join before it is done.
use Rattle.std.specs.Prelude.{ℕ, zero, suc, ◌+◌, Bool, false, cond, not, ◌&&◌, List, [], ◌∷◌, length, Some, None, Option, nat_lt, slice_index}
use Rattle.causal.specs.declared.dots.Dot.{Dot}
use Rattle.causal.specs.declared.runs.Run.{Run}
use Rattle.kinds.specs.Kinds.{ValueKind}
use Rattle.contexts.specs.Contexts.{too_many}
use Rattle.causal.specs.Runs.{has, union}
use Rattle.stores.specs.Items.{Item, find, stands, in_part, count_part}
use Rattle.groups.specs.Groups.{Group, one_spot}

-- the group knows the dot, and has no item there
unfoldable pub struck : Group → Dot → Bool
struck h d = has h.runs d && not (stands d h.items)

-- the item is of the part, with a dot that the runs lack
unfoldable pub arrives : List Run → ℕ → Item → Bool
arrives rs p y = in_part p y && not (has rs y.dot)

-- of n parts from p on, the first that holds more than its capacity
abbrev pub overfull_from : List ℕ → List Item → ℕ → ℕ → Option ℕ
overfull_from caps xs zero p = None
overfull_from caps xs (suc n) p = cond (nat_lt (slice_index caps p) (count_part p xs)) (Some p) (overfull_from caps xs n (p + 1))

-- the lowest part that holds more than its capacity
abbrev pub overfull : List ValueKind → List ℕ → List Item → Option ℕ
overfull ks caps xs = overfull_from caps xs (length ks) 0

-- the union of the runs, where they are few enough for a context
abbrev pub fitting_union : List Run → List Run → Option (List Run)
fitting_union rs qs = cond (too_many (union rs qs)) None (Some (union rs qs))

-- the item found stands at another part or place than y
abbrev pub displaced : Option Item → Item → Bool
displaced None y = false
displaced (Some x) y = not (one_spot x y)

-- the dot of y stands among xs, at another part or place
abbrev pub elsewhere : List Item → Item → Bool
elsewhere xs y = displaced (find y.dot xs) y

-- the first of the items ys, counted from n, whose dot stands elsewhere
abbrev pub elsewhere_from : List Item → ℕ → List Item → Option ℕ
elsewhere_from xs n [] = None
elsewhere_from xs n (y ∷ ys) = cond (elsewhere xs y) (Some n) (elsewhere_from xs (n + 1) ys)

-- the lowest of the group's items whose dot stands in the book at another part or place
abbrev pub first_elsewhere : List Item → Group → Option ℕ
first_elsewhere xs h = elsewhere_from xs 0 h.items
