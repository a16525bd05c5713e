-- What every store satisfies.
use Rattle.std.specs.Prelude.{◌≡◌, ℕ, ◌<◌, ◌≤◌, true, false, List, [], ◌∷◌, length, slice_index}
use Rattle.std.specs.List.{AllByRecursion, AllByRecursion-prop}
use Rattle.std.specs.Coded.{Coded-set, coded_bool, le_prop, ×_prop, Π_prop, Unit-prop}
use Rattle.kinds.specs.Kinds.{ValueKind}
use Rattle.stores.specs.Items.{Item, Ascends, Apart, count_part, has_dot, precedes}
use Rattle.stores.specs.Puts.{is_address, fits_part}

-- a store has this many parts at most
abbrev pub most_parts : ℕ
most_parts = 8

-- a part has room for this many entries at most
abbrev pub most_entries : ℕ
most_entries = 4096

-- one part at least, and eight at most
pub record FewParts (ks : List ValueKind) : Type 0 where
  pub some : 1 ≤ length ks
  pub few : length ks ≤ most_parts

-- a capacity for each part, none too large
pub record Roomy (ks : List ValueKind) (caps : List ℕ) : Type 0 where
  pub even : length caps ≡ length ks
  pub small : AllByRecursion (λ n. n ≤ most_entries) caps

-- an item of a part that is there, at a good place and dot, with a code of the part's kind
pub record Proper (ks : List ValueKind) (x : Item) : Type 0 where
  pub placed : x.part < length ks
  pub address : is_address x.place x.dot ≡ true
  pub fits : fits_part ks x.part x.code ≡ true

-- in order, no dot twice, every item proper, and no part over its capacity
pub record Orderly (ks : List ValueKind) (caps : List ℕ) (xs : List Item) : Type 0 where
  pub ascends : Ascends xs
  pub apart : Apart xs
  pub proper : AllByRecursion (Proper ks) xs
  pub within : (p : ℕ) → count_part p xs ≤ slice_index caps p

-- a list is orderly in one way at most

Ascends-prop : (xs : List Item) → IsProp (Ascends xs)
Ascends-prop [] = Unit-prop
Ascends-prop (x ∷ xs) = ×_prop (AllByRecursion-prop (λ y. precedes x y ≡ true) (λ y. Coded-set coded_bool (precedes x y) true) xs) (Ascends-prop xs)

Apart-prop : (xs : List Item) → IsProp (Apart xs)
Apart-prop [] = Unit-prop
Apart-prop (x ∷ xs) = ×_prop (AllByRecursion-prop (λ y. has_dot x.dot y ≡ false) (λ y. Coded-set coded_bool (has_dot x.dot y) false) xs) (Apart-prop xs)

Proper-prop : (ks : List ValueKind) (x : Item) → IsProp (Proper ks x)
Proper-prop ks x h k = λ i. record {
  placed = le_prop h.placed k.placed i;
  address = Coded-set coded_bool (is_address x.place x.dot) true h.address k.address i;
  fits = Coded-set coded_bool (fits_part ks x.part x.code) true h.fits k.fits i;
}

pub Orderly-prop : {ks : List ValueKind} {caps : List ℕ} {xs : List Item} → IsProp (Orderly ks caps xs)
Orderly-prop {ks} {caps} {xs} h k = λ i. record {
  ascends = Ascends-prop xs h.ascends k.ascends i;
  apart = Apart-prop xs h.apart k.apart i;
  proper = AllByRecursion-prop (Proper ks) (Proper-prop ks) xs h.proper k.proper i;
  within = Π_prop (λ p. le_prop) h.within k.within i;
}
