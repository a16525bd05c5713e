-- A store's items, in order through its parts.
use Rattle.std.proofs.Common.{◌≡◌, ℕ, ◌+◌, ◌-◌, ◌<◌, ◌≤◌, true, false, ◌&&◌, eqb, ltb, leb, List, [], ◌∷◌, ◌++◌, length, None, filter, sym, refl, ap, ◌∙◌, ap₂, inl, inr, arith}
use Rattle.std.specs.List.{slice_get, AllByRecursion}
use Rattle.std.proofs.ByRecursion.{All-weaker}
use Rattle.std.proofs.lemmas.Bool.{cases_order, cond-true, cond-false, eq-eqb, ne_eqb, le-leb, lt-leb, or_cases, and_parts, ltb-true, eqb-true}
use Rattle.stores.specs.Items.{Item, in_part, precedes, spot_less, Ascends}
use Rattle.sources.proofs.Lists.{kept_all, nth_front, nth_rest}

-- the items of part p and above
abbrev pub from_part : ℕ → List Item → List Item
from_part p xs = filter (λ x. leb p x.part) xs

part_order : (x y : Item) → precedes x y ≡ true → x.part ≤ y.part
part_order x y e = elim (or_cases (ltb x.part y.part) (eqb x.part y.part && spot_less x.place x.dot y.place y.dot) e) [
  | inl a ↦ let l = ltb-true x.part y.part a in omega arith
  | inr b ↦ let l = eqb-true x.part y.part (and_parts (eqb x.part y.part) _ b).0 in omega arith
]

none_below : (p : ℕ) (xs : List Item) → AllByRecursion (λ y. p < y.part) xs → filter (in_part p) xs ≡ []
none_below p [] a = refl
none_below p (x ∷ xs) a = let l = a.0 in cond-false (in_part p x) (x ∷ filter (in_part p) xs) (filter (in_part p) xs) (ne_eqb x.part p (λ e. omega arith)) ∙ none_below p xs a.1

all_above : (p : ℕ) (xs : List Item) → AllByRecursion (λ y. p ≤ y.part) xs → from_part p xs ≡ xs
all_above p xs a = kept_all (λ x. leb p x.part) xs (All-weaker (λ y. p ≤ y.part) (λ y. leb p y.part ≡ true) (λ y l. le-leb p y.part l) xs a)

-- in a list in order the items of a part come before those of the parts above
pub part_first : (p : ℕ) (xs : List Item) → Ascends xs → from_part p xs ≡ filter (in_part p) xs ++ from_part (p + 1) xs
part_first p [] a = refl
part_first p (x ∷ xs) a = elim (cases_order x.part p) [
  | inl e ↦ keep_it (le-leb p x.part (omega arith)) ∙ ap (λ zs. x ∷ zs) (part_first p xs a.1)
      ∙ sym (ap₂ (λ us vs. us ++ vs) (cond-true (in_part p x) (x ∷ filter (in_part p) xs) (filter (in_part p) xs) (eq-eqb x.part p e)) (skip_above (lt-leb (p + 1) x.part (omega arith))))
  | inr r ↦ elim r [
    | inl l ↦ cond-false (leb p x.part) (x ∷ from_part p xs) (from_part p xs) (lt-leb p x.part l) ∙ part_first p xs a.1
        ∙ sym (ap₂ (λ us vs. us ++ vs) (cond-false (in_part p x) (x ∷ filter (in_part p) xs) (filter (in_part p) xs) (ne_eqb x.part p (λ e. omega arith))) (skip_above (lt-leb (p + 1) x.part (omega arith))))
    | inr g ↦
        let later : AllByRecursion (λ y. p < y.part) xs = All-weaker (λ y. precedes x y ≡ true) (λ y. p < y.part) (λ y t. let o = part_order x y t in omega arith) xs a.0 in
        let here : AllByRecursion (λ y. p < y.part) (x ∷ xs) = (g, later) in
        all_above p (x ∷ xs) (All-weaker (λ y. p < y.part) (λ y. p ≤ y.part) (λ y l. omega arith) (x ∷ xs) here)
        ∙ sym (ap₂ (λ us vs. us ++ vs) (none_below p (x ∷ xs) here) (all_above (p + 1) (x ∷ xs) (All-weaker (λ y. p < y.part) (λ y. p + 1 ≤ y.part) (λ y l. omega arith) (x ∷ xs) here)))
  ]
]
  where
    keep_it : leb p x.part ≡ true → from_part p (x ∷ xs) ≡ x ∷ from_part p xs
    keep_it t = cond-true (leb p x.part) (x ∷ from_part p xs) (from_part p xs) t

    skip_above : leb (p + 1) x.part ≡ false → from_part (p + 1) (x ∷ xs) ≡ from_part (p + 1) xs
    skip_above f = cond-false (leb (p + 1) x.part) (x ∷ from_part (p + 1) xs) (from_part (p + 1) xs) f

pub from_none : (xs : List Item) → from_part 0 xs ≡ xs
from_none xs = all_above 0 xs (low xs)
  where
    low : (ys : List Item) → AllByRecursion (λ y. 0 ≤ y.part) ys
    low [] = tt
    low (y ∷ ys) = (omega arith, low ys)

pub from_end : (n : ℕ) (xs : List Item) (i : ℕ) → AllByRecursion (λ x. x.part < n) xs → slice_get (from_part n xs) i ≡ None
from_end n [] i a = refl
from_end n (x ∷ xs) i a = ap (λ zs. slice_get zs i) (cond-false (leb n x.part) (x ∷ from_part n xs) (from_part n xs) (lt-leb n x.part a.0)) ∙ from_end n xs i a.1

-- the walk through the parts
module _ (xs : List Item) (a : Ascends xs) (p i : ℕ) where
  pub in_this_part : i < length (filter (in_part p) xs) → slice_get (filter (in_part p) xs) i ≡ slice_get (from_part p xs) i
  in_this_part l = sym (ap (λ zs. slice_get zs i) (part_first p xs a) ∙ nth_front (filter (in_part p) xs) (from_part (p + 1) xs) i l)

  pub in_later_part : length (filter (in_part p) xs) ≤ i → slice_get (from_part (p + 1) xs) (i - length (filter (in_part p) xs)) ≡ slice_get (from_part p xs) i
  in_later_part l = sym (ap (λ zs. slice_get zs i) (part_first p xs a) ∙ nth_rest (filter (in_part p) xs) (from_part (p + 1) xs) i l)

-- no item stands in a part that is not there
pub part_empty : (n : ℕ) (xs : List Item) (p i : ℕ) → AllByRecursion (λ x. x.part < n) xs → n ≤ p → None ≡ slice_get (filter (in_part p) xs) i
part_empty n [] p i a l = refl
part_empty n (x ∷ xs) p i a l =
    let low = a.0 in
    part_empty n xs p i a.1 l ∙ sym (ap (λ zs. slice_get zs i) (cond-false (in_part p x) (x ∷ filter (in_part p) xs) (filter (in_part p) xs) (ne_eqb x.part p (λ e. omega arith))))
