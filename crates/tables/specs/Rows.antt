-- Entries in lent memory: rows, of which the first few are in use.
use Rattle.std.specs.Prelude.{◌≡◌, ℕ, zero, suc, min, Bool, false, cond, not, nat_lt, Option, Some, None, List, [], ◌∷◌, length, map, refl}
use Rattle.std.proofs.Common.{arith}
use Rattle.std.specs.List.{AllByRecursion}
use Rattle.causal.specs.declared.dots.Dot.{Dot}
use Rattle.causal.specs.declared.places.Place.{Place}
use Rattle.causal.specs.Dots.{same_dot}
use Rattle.kinds.specs.Kinds.{ValueKind}
use Rattle.stores.specs.declared.entries.Entry.{Entry}
use Rattle.stores.specs.Items.{Item, item_of, spot_less}
use Rattle.stores.specs.Sound.{FewParts, Roomy, most_entries}

-- rows as items of part 0
abbrev pub items : {V : Type 0} → (V → ℕ) → List (Entry V) → List Item
items coded es = map (item_of coded 0) es

-- how many of this many rows are used at most
abbrev pub usable : ℕ → ℕ
usable rows = min rows most_entries

-- the row stands before the place and the dot
abbrev pub ahead : {V : Type 0} → Place → Dot → Entry V → Bool
ahead p d x = spot_less x.place x.dot p d

-- the row has another dot
abbrev pub other : {V : Type 0} → Dot → Entry V → Bool
other d x = not (same_dot x.dot d)

-- how many elements at the front pass the test, one after another
abbrev pub lead : {X : Type 0} → (X → Bool) → List X → ℕ
lead f [] = 0
lead f (x ∷ xs) = cond (f x) (suc (lead f xs)) 0

-- where one fails the test, so do all after it
abbrev pub Falls : {X : Type 0} → (X → Bool) → List X → Type 0
Falls f [] = Unit {0}
Falls f (x ∷ xs) = (f x ≡ false → AllByRecursion (λ y. f y ≡ false) xs) × Falls f xs

-- the index of the first row with the dot
abbrev pub first_at : {V : Type 0} → Dot → List (Entry V) → Option ℕ
first_at d es = cond (nat_lt (lead (other d) es) (length es)) (Some (lead (other d) es)) None

-- the element at n, changed
abbrev pub adjust : {X : Type 0} → (X → X) → ℕ → List X → List X
adjust f n [] = []
adjust f zero (x ∷ xs) = f x ∷ xs
adjust f (suc n) (x ∷ xs) = x ∷ adjust f n xs

-- a table has one part, and its capacity

pub one_part : (k : ValueKind) → FewParts (k ∷ [])
one_part k = record { some = omega arith; few = omega arith }

pub one_roomy : (k : ValueKind) (rows : ℕ) → Roomy (k ∷ []) (usable rows ∷ [])
one_roomy k rows = record { even = refl; small = (omega arith, tt) }
