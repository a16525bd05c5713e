-- What the searches and shifts over rows come to, on the list of items.
use Rattle.std.proofs.Common.{◌≡◌, ℕ, zero, suc, ◌<◌, ◌≤◌, Bool, true, false, cond, not, List, [], ◌∷◌, ◌++◌, map, length, get_or, take, drop, set, sym, refl, ap, ◌∙◌, ap₂, inl, inr, arith}
use Rattle.std.specs.List.{insert, remove, AllByRecursion}
use Rattle.std.proofs.lemmas.Bool.{cases_Bool, cond-true, cond-false, or_left, or_right}
use Rattle.std.proofs.lemmas.List.{map-append, take-map, drop-map}
use Rattle.causal.specs.declared.dots.Dot.{Dot}
use Rattle.kinds.specs.Kinds.{ValueKind}
use Rattle.stores.specs.Items.{Item, has_dot, stands, merge, merge_dot, Apart, insert_item, precedes, strike_items}
use Rattle.tables.specs.Rows.{lead, adjust}
use Rattle.stores.proofs.Held.{lacks, merge_absent, rest_absent, strike_absent}

pub lead_map : {X Y : Type 0} (f : Y → Bool) (m : X → Y) (xs : List X) → lead f (map m xs) ≡ lead (λ x. f (m x)) xs
lead_map f m [] = refl
lead_map f m (x ∷ xs) = ap (λ n. cond (f (m x)) (suc n) 0) (lead_map f m xs)

pub adjust_set : {X : Type 0} (f : X → X) (n : ℕ) (xs : List X) (d : X) → n < length xs → adjust f n xs ≡ set xs n (f (get_or xs n d))
adjust_set f n [] d h = absurd (omega arith)
adjust_set f zero (x ∷ xs) d h = refl
adjust_set f (suc n) (x ∷ xs) d h = ap (λ ys. x ∷ ys) (adjust_set f n xs d (omega arith))

pub map_inserted : {X Y : Type 0} (f : X → Y) (xs : List X) (n : ℕ) (x : X) → map f (insert xs n x) ≡ insert (map f xs) n (f x)
map_inserted f xs n x = map-append f (take n xs) (x ∷ drop n xs) ∙ ap₂ (λ ls bs. ls ++ (f x ∷ bs)) (sym (take-map f n xs)) (sym (drop-map f n xs))

pub map_removed : {X Y : Type 0} (f : X → Y) (xs : List X) (n : ℕ) → map f (remove xs n) ≡ remove (map f xs) n
map_removed f xs n = map-append f (take n xs) (drop (suc n) xs) ∙ ap₂ (λ ls bs. ls ++ bs) (sym (take-map f n xs)) (sym (drop-map f (suc n) xs))

pub seen : (d : Dot) (xs : List Item) → lead (lacks d) xs < length xs → stands d xs ≡ true
seen d [] h = absurd (omega arith)
seen d (x ∷ xs) h = elim (cases_Bool (has_dot d x)) [
  | inl t ↦ or_left (has_dot d x) (stands d xs) t
  | inr f ↦ or_right (has_dot d x) (stands d xs) (seen d xs (let e = cond-true (lacks d x) (suc (lead (lacks d) xs)) 0 (ap not f) in omega (arith, e)))
]

pub unseen : (d : Dot) (xs : List Item) → length xs ≤ lead (lacks d) xs → AllByRecursion (λ y. has_dot d y ≡ false) xs
unseen d [] h = tt
unseen d (x ∷ xs) h = elim (cases_Bool (has_dot d x)) [
  | inl t ↦ absurd (let e = cond-false (lacks d x) (suc (lead (lacks d) xs)) 0 (ap not t) in omega (arith, e))
  | inr f ↦ (f, unseen d xs (let e = cond-true (lacks d x) (suc (lead (lacks d) xs)) 0 (ap not f) in omega (arith, e)))
]

pub merge_found : (k : ValueKind) (x : Item) (xs : List Item) → Apart xs → lead (lacks x.dot) xs < length xs → adjust (merge k x) (lead (lacks x.dot) xs) xs ≡ map (merge_dot k x) xs
merge_found k x [] a h = refl
merge_found k x (y ∷ ys) a h = elim (cases_Bool (has_dot x.dot y)) [
  | inl t ↦ ap (λ n. adjust (merge k x) n (y ∷ ys)) (cond-false (lacks x.dot y) (suc (lead (lacks x.dot) ys)) 0 (ap not t))
      ∙ ap₂ (λ (b : Item) bs. b ∷ bs) (sym (cond-true (has_dot x.dot y) (merge k x y) y t)) (sym (merge_absent k x ys (rest_absent x.dot y ys t a.0)))
  | inr f ↦ let e = cond-true (lacks x.dot y) (suc (lead (lacks x.dot) ys)) 0 (ap not f) in
      ap (λ n. adjust (merge k x) n (y ∷ ys)) e
      ∙ ap₂ (λ (b : Item) bs. b ∷ bs) (sym (cond-false (has_dot x.dot y) (merge k x y) y f)) (merge_found k x ys a.1 (omega (arith, e)))
]

pub insert_is : (x : Item) (xs : List Item) → insert xs (lead (λ y. precedes y x) xs) x ≡ insert_item x xs
insert_is x [] = refl
insert_is x (y ∷ ys) = elim (cases_Bool (precedes y x)) [
  | inl t ↦ ap (λ n. insert (y ∷ ys) n x) (cond-true (precedes y x) (suc (lead (λ y. precedes y x) ys)) 0 t)
      ∙ ap (λ bs. y ∷ bs) (insert_is x ys) ∙ sym (cond-true (precedes y x) (y ∷ insert_item x ys) (x ∷ y ∷ ys) t)
  | inr f ↦ ap (λ n. insert (y ∷ ys) n x) (cond-false (precedes y x) (suc (lead (λ y. precedes y x) ys)) 0 f)
      ∙ sym (cond-false (precedes y x) (y ∷ insert_item x ys) (x ∷ y ∷ ys) f)
]

pub strike_found : (d : Dot) (xs : List Item) → Apart xs → lead (lacks d) xs < length xs → remove xs (lead (lacks d) xs) ≡ strike_items d xs
strike_found d [] a h = absurd (omega arith)
strike_found d (y ∷ ys) a h = elim (cases_Bool (has_dot d y)) [
  | inl t ↦ ap (λ n. remove (y ∷ ys) n) (cond-false (lacks d y) (suc (lead (lacks d) ys)) 0 (ap not t))
      ∙ sym (cond-false (lacks d y) (y ∷ strike_items d ys) (strike_items d ys) (ap not t) ∙ strike_absent d ys (rest_absent d y ys t a.0))
  | inr f ↦ let e = cond-true (lacks d y) (suc (lead (lacks d) ys)) 0 (ap not f) in
      ap (λ n. remove (y ∷ ys) n) e ∙ ap (λ bs. y ∷ bs) (strike_found d ys a.1 (omega (arith, e)))
      ∙ sym (cond-true (lacks d y) (y ∷ strike_items d ys) (strike_items d ys) (ap not f))
]
