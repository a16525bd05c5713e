-- The steps of a walk over a group's items.
use Rattle.std.proofs.Common.{◌≡◌, ℕ, zero, suc, ◌<◌, Bool, true, false, cond, ◌||◌, List, [], ◌∷◌, length, drop, Some, filter, sym, refl, ap, ◌∙◌, inl, inr, arith}
use Rattle.std.specs.Bool.{MatchBool}
use Rattle.std.specs.List.{slice_get, AllWithin, HoldsAt}
use Rattle.std.proofs.lemmas.Bool.{or_left, or_right, or_cases}
use Rattle.causal.specs.declared.dots.Dot.{Dot}
use Rattle.stores.specs.Items.{Item, has_dot, stands}
use Rattle.stores.proofs.Stays.{some_none}
use Rattle.stores.proofs.Lookups.{some_same}

-- an item that is there, with the dot
pub nth_stands : (d : Dot) (ys : List Item) (i : ℕ) (y : Item) → Some y ≡ slice_get ys i → has_dot d y ≡ true → stands d ys ≡ true
nth_stands d [] i y e t = absurd (some_none e)
nth_stands d (z ∷ zs) zero y e t = or_left (has_dot d z) (stands d zs) (ap (has_dot d) (sym (some_same y z e)) ∙ t)
nth_stands d (z ∷ zs) (suc i) y e t = or_right (has_dot d z) (stands d zs) (nth_stands d zs i y e t)

-- and among those that are kept, so among all
pub kept_stands : (f : Item → Bool) (d : Dot) (xs : List Item) → stands d (filter f xs) ≡ true → stands d xs ≡ true
kept_stands f d [] e = e
kept_stands f d (x ∷ xs) e = go (f x) (λ q. kept_stands f d xs q) e
  where
    go : (b : Bool) → (stands d (filter f xs) ≡ true → stands d xs ≡ true) → stands d (cond b (x ∷ filter f xs) (filter f xs)) ≡ true → (has_dot d x || stands d xs) ≡ true
    go false i q = or_right (has_dot d x) (stands d xs) (i q)
    go true i q = elim (or_cases (has_dot d x) (stands d (filter f xs)) q) [ inl a ↦ or_left (has_dot d x) (stands d xs) a | inr b ↦ or_right (has_dot d x) (stands d xs) (i b) ]

-- what a look at all items, from the first on, tells of a dot
module _ (d : Dot) where
  abbrev Has : Item → Type 0
  Has y = has_dot d y ≡ true

  abbrev Lacks : Item → Type 0
  Lacks y = has_dot d y ≡ false

  some_stands : (k : ℕ) (ys : List Item) → k < length ys → HoldsAt Has ys k → true ≡ stands d ys
  some_stands k [] l t = absurd (omega arith)
  some_stands zero (y ∷ ys) l t = sym (or_left (has_dot d y) (stands d ys) (t y))
  some_stands (suc k) (y ∷ ys) l t = sym (or_right (has_dot d y) (stands d ys) (sym (some_stands k ys (omega arith) (λ e. t e))))

  none_stands : (ys : List Item) → AllWithin Lacks ys 0 (length ys) → false ≡ stands d ys
  none_stands [] h = refl
  none_stands (y ∷ ys) h = none_stands ys (λ k e l u. h (suc k) e (omega arith) (omega arith)) ∙ sym (ap (λ b. b || stands d ys) (h 0 y (omega arith) (omega arith)))

  all_told : (ys : List Item) (r : Bool) → MatchBool r ((k : ℕ) × (k < length ys) × HoldsAt Has ys k) (AllWithin Lacks ys 0 (length ys)) → r ≡ stands d ys
  all_told ys true h = some_stands h.0 ys h.1 h.2
  all_told ys false h = none_stands ys h

  pub stands_told : (ys : List Item) (n : ℕ) (r : Bool) → n ≡ 0 → MatchBool r ((k : ℕ) × (k < length (drop n ys)) × HoldsAt Has (drop n ys) k) (AllWithin Lacks (drop n ys) 0 (length (drop n ys))) → r ≡ stands d ys
  stands_told ys n r z h = all_told (drop n ys) r h ∙ ap (λ m. stands d (drop m ys)) z
