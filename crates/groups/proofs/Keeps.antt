-- Lists of which a part is kept, and lists inserted into lists.
use Rattle.std.proofs.Common.{◌≡◌, true, false, cond, List, [], ◌∷◌, Some, None, Option, sym, refl, ap, ◌∙◌, ap₂, arith}
use Rattle.std.specs.Option.{option_or}
use Rattle.std.specs.List.{AllByRecursion}
use Rattle.causal.specs.declared.dots.Dot.{Dot}
use Rattle.stores.specs.Items.{Item, recode, precedes, has_dot, stands, find, Ascends, Apart}
use Rattle.groups.specs.Groups.{lead, keep, insert_items}
use Rattle.stores.proofs.ItemOrder.{dot_equal}
use Rattle.stores.proofs.Held.{absent_stands}
use Rattle.stores.proofs.Stays.{all_insert, ascends_insert, apart_insert}
use Rattle.stores.proofs.Lookups.{find_absent, find_first, find_insert}

-- no item of the list has the dot
abbrev pub Absent : Dot → List Item → Type 0
Absent d xs = AllByRecursion (λ x. has_dot d x ≡ false) xs

-- y is x, perhaps with another code
abbrev pub Recodes : Item → Item → Type 0
Recodes x y = y ≡ recode x y.code

abbrev pub bound : Option Item → (Item → Option Item) → Option Item
bound None f = None
bound (Some x) f = f x

-- after an item with the dot no other has it
pub find_past : (x : Item) (xs : List Item) (d : Dot) → Absent x.dot xs → has_dot d x ≡ true → find d xs ≡ None
find_past x xs d a t = ap (λ c. find c xs) (sym (dot_equal x.dot d t)) ∙ find_absent x.dot xs (absent_stands x.dot xs a)

-- what holds of all that is found holds of all items
pub all_found : (P : Item → Type 0) (xs : List Item) → Apart xs → ((d : Dot) (x : Item) → find d xs ≡ Some x → P x) → AllByRecursion P xs
all_found P [] a h = tt
all_found P (x ∷ xs) a h = (h x.dot x (find_first x xs), all_found P xs a.1 (λ d y e. h d y (later d y e)))
  where
    later : (d : Dot) (y : Item) → find d xs ≡ Some y → find d (x ∷ xs) ≡ Some y
    later d y e = let p = find_past x xs d a.0 in grind arith

pub all_keep : (f : Item → Option Item) (P Q : Item → Type 0) → ((x y : Item) → f x ≡ Some y → P x → Q y) → (xs : List Item) → AllByRecursion P xs → AllByRecursion Q (keep f xs)
all_keep f P Q h [] a = tt
all_keep f P Q h (x ∷ xs) a = go (f x) refl (all_keep f P Q h xs a.1)
  where
    go : (o : Option Item) → f x ≡ o → AllByRecursion Q (keep f xs) → AllByRecursion Q (lead o (keep f xs))
    go None e ih = ih
    go (Some y) e ih = (h x y e a.0, ih)

-- where what is kept of an item changes its code at most
module _ (f : Item → Option Item) (same : (x y : Item) → f x ≡ Some y → Recodes x y) where
  pub keep_ascends : (xs : List Item) → Ascends xs → Ascends (keep f xs)
  keep_ascends [] a = tt
  keep_ascends (x ∷ xs) a = go (f x) refl (keep_ascends xs a.1)
    where
      go : (o : Option Item) → f x ≡ o → Ascends (keep f xs) → Ascends (lead o (keep f xs))
      go None e ih = ih
      go (Some y) e ih = (all_keep f (λ z. precedes x z ≡ true) (λ z. precedes y z ≡ true) (λ z w p q. ap₂ precedes (same x y e) (same z w p) ∙ q) xs a.0, ih)

  pub keep_apart : (xs : List Item) → Apart xs → Apart (keep f xs)
  keep_apart [] a = tt
  keep_apart (x ∷ xs) a = go (f x) refl (keep_apart xs a.1)
    where
      go : (o : Option Item) → f x ≡ o → Apart (keep f xs) → Apart (lead o (keep f xs))
      go None e ih = ih
      go (Some y) e ih = (all_keep f (λ z. has_dot x.dot z ≡ false) (λ z. has_dot y.dot z ≡ false) (λ z w p q. ap₂ (λ u v. has_dot u.dot v) (same x y e) (same z w p) ∙ q) xs a.0, ih)

  pub find_keep : (xs : List Item) (d : Dot) → Apart xs → find d (keep f xs) ≡ bound (find d xs) f
  find_keep [] d a = refl
  find_keep (x ∷ xs) d a = go (f x) refl (find_keep xs d a.1)
    where
      go : (o : Option Item) → f x ≡ o → find d (keep f xs) ≡ bound (find d xs) f → find d (lead o (keep f xs)) ≡ bound (cond (has_dot d x) (Some x) (find d xs)) f
      go None e ih = let r = find_past x xs d a.0 in grind arith
      go (Some y) e ih = let s : y.dot ≡ x.dot = ap (λ z. z.dot) (same x y e) in grind arith

-- insertions of items whose dots are not there
module _ (xs : List Item) where
  pub all_inserts : (P : Item → Type 0) (ys : List Item) → AllByRecursion P ys → AllByRecursion P xs → AllByRecursion P (insert_items ys xs)
  all_inserts P [] b a = a
  all_inserts P (y ∷ ys) b a = all_insert P y (insert_items ys xs) b.0 (all_inserts P ys b.1 a)

  abbrev pub Free : List Item → Type 0
  Free ys = AllByRecursion (λ y. Absent y.dot xs) ys

  free : (y : Item) (ys : List Item) → Apart (y ∷ ys) → Free (y ∷ ys) → stands y.dot (insert_items ys xs) ≡ false
  free y ys a n = absent_stands y.dot (insert_items ys xs) (all_inserts (λ z. has_dot y.dot z ≡ false) ys a.0 n.0)

  pub inserts_ascend : (ys : List Item) → Apart ys → Free ys → Ascends xs → Ascends (insert_items ys xs)
  inserts_ascend [] a n h = h
  inserts_ascend (y ∷ ys) a n h = ascends_insert y (insert_items ys xs) (free y ys a n) (inserts_ascend ys a.1 n.1 h)

  pub inserts_apart : (ys : List Item) → Apart ys → Free ys → Apart xs → Apart (insert_items ys xs)
  inserts_apart [] a n h = h
  inserts_apart (y ∷ ys) a n h = apart_insert y (insert_items ys xs) (free y ys a n) (inserts_apart ys a.1 n.1 h)

  pub find_inserts : (ys : List Item) (d : Dot) → Apart ys → Free ys → find d (insert_items ys xs) ≡ option_or (find d ys) (find d xs)
  find_inserts [] d a n = refl
  find_inserts (y ∷ ys) d a n =
      let i = find_inserts ys d a.1 n.1 in
      let p = find_insert y d (insert_items ys xs) (free y ys a n) in
      grind arith
