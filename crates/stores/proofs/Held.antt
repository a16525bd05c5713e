-- What a dot that does not stand leaves as it is.
use Rattle.std.proofs.Common.{◌≡◌, Bool, true, false, not, List, [], ◌∷◌, map, refl, ap, ◌∙◌, ap₂}
use Rattle.std.specs.List.{AllByRecursion}
use Rattle.std.proofs.lemmas.Bool.{cond-true, cond-false, or_from}
use Rattle.causal.specs.declared.dots.Dot.{Dot}
use Rattle.kinds.specs.Kinds.{ValueKind}
use Rattle.stores.specs.Items.{Item, has_dot, stands, merge, merge_dot, strike_items}
use Rattle.stores.proofs.ItemOrder.{dot_equal}

abbrev pub lacks : Dot → Item → Bool
lacks d x = not (has_dot d x)

pub absent_stands : (d : Dot) (xs : List Item) → AllByRecursion (λ y. has_dot d y ≡ false) xs → stands d xs ≡ false
absent_stands d [] h = refl
absent_stands d (x ∷ xs) h = or_from (has_dot d x) (stands d xs) h.0 (absent_stands d xs h.1)

pub merge_absent : (k : ValueKind) (x : Item) (xs : List Item) → AllByRecursion (λ y. has_dot x.dot y ≡ false) xs → map (merge_dot k x) xs ≡ xs
merge_absent k x [] h = refl
merge_absent k x (y ∷ ys) h = ap₂ (λ (b : Item) bs. b ∷ bs) (cond-false (has_dot x.dot y) (merge k x y) y h.0) (merge_absent k x ys h.1)

pub rest_absent : (d : Dot) (y : Item) (ys : List Item) → has_dot d y ≡ true → AllByRecursion (λ z. has_dot y.dot z ≡ false) ys → AllByRecursion (λ z. has_dot d z ≡ false) ys
rest_absent d y ys t h = let P : Dot → Type 0 = λ e. AllByRecursion (λ z. has_dot e z ≡ false) ys in mathlib.Core.Path.subst P (dot_equal y.dot d t) h

pub strike_absent : (d : Dot) (xs : List Item) → AllByRecursion (λ y. has_dot d y ≡ false) xs → strike_items d xs ≡ xs
strike_absent d [] h = refl
strike_absent d (x ∷ xs) h = cond-true (lacks d x) (x ∷ strike_items d xs) (strike_items d xs) (ap not h.0) ∙ ap (λ bs. x ∷ bs) (strike_absent d xs h.1)
