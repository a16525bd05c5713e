-- What the calls of a pair come to.
use Rattle.std.proofs.Common.{◌≡◌, ℕ, zero, suc, ◌+◌, ◌-◌, ◌<◌, ◌≤◌, Bool, true, false, cond, not, ◌&&◌, ◌||◌, eqb, leb, List, [], ◌∷◌, ◌++◌, map, length, get_or, take, is_some, IfSome, Some, None, filter, Option, sym, refl, ap, ◌∙◌, subst, ap₂, inl, inr, arith}
use Rattle.std.specs.List.{slice_get, AllByRecursion}
use Rattle.std.specs.Option.{option_map}
use Rattle.std.proofs.lemmas.Bool.{cases_Bool, cases_eq, cond-true, cond-false, cond_both, and_left, or_left, or_right, or_cases, ne_eqb, eq-eqb, both_ways}
use Rattle.std.proofs.lemmas.List.Elements.{filter-append}
use Rattle.std.proofs.ByRecursion.{All-weaker, All-append}
use Rattle.std.proofs.lemmas.List.{append-nil, map-append, length-map, length-take, get_or-take, get_or_append_left, get_or-append_right}
use Rattle.std.proofs.Math.Bool.{or_assoc}
use Rattle.causal.specs.declared.dots.Dot.{Dot}
use Rattle.causal.specs.Places.{same_place}
use Rattle.kinds.specs.Kinds.{ValueKind}
use Rattle.refusals.specs.declared.Refusal.{Refusal}
use Rattle.stores.specs.declared.entries.Entry.{Entry}
use Rattle.stores.specs.declared.faults.StoreFault.{StoreFault}
use Rattle.stores.specs.declared.faults.StoreFault.TheVariants.{Address, Unfit, Full}
use Rattle.stores.specs.Items.{Item, spot_less, item_at, in_part, count_part, entry_at, find, has_dot, stands, recode, merge, merge_dot, insert_item, precedes, put_items, strike_items, Apart}
use Rattle.stores.specs.Faults.{refusal_of, renumbered, part_full}
use Rattle.stores.specs.Puts.{crowded, full_if, first_of, misfit_of, misfit, put_refusal, accept, put_of, put_after}
use Rattle.stores.specs.Sound.{FewParts, Roomy, Orderly, most_parts}
use Rattle.pairs.specs.Pairs.{raise, both, paired}
use Rattle.stores.proofs.ItemOrder.{lower_precedes, higher_follows, ltb_add, eqb_add}
use Rattle.stores.proofs.Held.{lacks, merge_absent, absent_stands, rest_absent}
use Rattle.stores.proofs.Stays.{cond_out, some_none, absent_from, misfit_told, all_placed, orderly_put}

-- lists in general

all_of : {X : Type 0} (P : X → Type 0) → ((x : X) → P x) → (xs : List X) → AllByRecursion P xs
all_of P h [] = tt
all_of P h (x ∷ xs) = (h x, all_of P h xs)

all_right : {X : Type 0} (P : X → Type 0) (xs ys : List X) → AllByRecursion P (xs ++ ys) → AllByRecursion P ys
all_right P [] ys h = h
all_right P (x ∷ xs) ys h = all_right P xs ys h.1

kept_map : {X Y : Type 0} (f : Y → Bool) (m : X → Y) (xs : List X) → filter f (map m xs) ≡ map m (filter (λ x. f (m x)) xs)
kept_map f m [] = refl
kept_map f m (x ∷ xs) = ap (λ ys. cond (f (m x)) (m x ∷ ys) ys) (kept_map f m xs) ∙ cond_out (map m) (f (m x)) (x ∷ filter (λ y. f (m y)) xs) (filter (λ y. f (m y)) xs)

kept_same : {X : Type 0} (f g : X → Bool) (xs : List X) → AllByRecursion (λ x. f x ≡ g x) xs → filter f xs ≡ filter g xs
kept_same f g [] h = refl
kept_same f g (x ∷ xs) h = ap₂ (λ b ys. cond b (x ∷ ys) ys) h.0 (kept_same f g xs h.1)

kept_none : {X : Type 0} (f : X → Bool) (xs : List X) → AllByRecursion (λ x. f x ≡ false) xs → filter f xs ≡ []
kept_none f [] h = refl
kept_none f (x ∷ xs) h = cond-false (f x) (x ∷ filter f xs) (filter f xs) h.0 ∙ kept_none f xs h.1

map_same : {X : Type 0} (f : X → X) (xs : List X) → AllByRecursion (λ x. f x ≡ x) xs → map f xs ≡ xs
map_same f [] h = refl
map_same f (x ∷ xs) h = ap₂ (λ y ys. y ∷ ys) h.0 (map_same f xs h.1)

nth_map : {X Y : Type 0} (f : X → Y) (xs : List X) (i : ℕ) → slice_get (map f xs) i ≡ option_map f (slice_get xs i)
nth_map f [] i = refl
nth_map f (x ∷ xs) zero = refl
nth_map f (x ∷ xs) (suc i) = nth_map f xs i

pub nth_left : {X : Type 0} (ks ls : List X) (p : ℕ) → p < length ks → slice_get (ks ++ ls) p ≡ slice_get ks p
nth_left [] ls p h = absurd (omega arith)
nth_left (k ∷ ks) ls zero h = refl
nth_left (k ∷ ks) ls (suc p) h = nth_left ks ls p (omega arith)

pub nth_right : {X : Type 0} (ks ls : List X) (p : ℕ) → length ks ≤ p → slice_get (ks ++ ls) p ≡ slice_get ls (p - length ks)
nth_right [] ls p h = let e : p ≡ p - 0 = omega arith in ap (slice_get ls) e
nth_right (k ∷ ks) ls zero h = absurd (omega arith)
nth_right (k ∷ ks) ls (suc p) h = let e : p - length ks ≡ suc p - suc (length ks) = omega arith in nth_right ks ls p (omega arith) ∙ ap (slice_get ls) e

pub precedes_raise : (n : ℕ) (x y : Item) → precedes (raise n x) (raise n y) ≡ precedes x y
precedes_raise n x y = ap₂ (λ p q. p || (q && spot_less x.place x.dot y.place y.dot)) (ltb_add n x.part y.part) (eqb_add n x.part y.part)

-- the parts of a pair

nth_take : {X : Type 0} (n : ℕ) (xs : List X) (p : ℕ) → p < n → slice_get (take n xs) p ≡ slice_get xs p
nth_take zero xs p h = absurd (omega arith)
nth_take (suc n) [] p h = refl
nth_take (suc n) (x ∷ xs) zero h = refl
nth_take (suc n) (x ∷ xs) (suc p) h = nth_take n xs p (omega arith)

paired_short : {X : Type 0} (xs ys : List X) → length (paired xs ys) ≤ most_parts
paired_short xs ys = let t = length-take most_parts (xs ++ ys) in omega arith

module _ {X : Type 0} (ks ls : List X) (p : ℕ) where
  pub nth_low : length ks ≤ most_parts → p < length ks → slice_get (paired ks ls) p ≡ slice_get ks p
  nth_low few h = nth_take most_parts (ks ++ ls) p (omega arith) ∙ nth_left ks ls p h

  pub nth_high : length ks ≤ p → p < most_parts → slice_get (paired ks ls) p ≡ slice_get ls (p - length ks)
  nth_high h l = nth_take most_parts (ks ++ ls) p l ∙ nth_right ks ls p h

module _ (us vs : List ℕ) (p : ℕ) where
  pub room_low : length us ≤ most_parts → p < length us → get_or (paired us vs) p 0 ≡ get_or us p 0
  room_low few h = get_or-take most_parts (us ++ vs) p 0 (omega arith) ∙ get_or_append_left us vs 0 p h

  pub room_high : (n : ℕ) → length us ≡ n → n ≤ p → p < most_parts → get_or (paired us vs) p 0 ≡ get_or vs (p - n) 0
  room_high n e h l = get_or-take most_parts (us ++ vs) p 0 l ∙ get_or-append_right us vs n p 0 e h

-- the entries of one part

eqb_shift : (n p a : ℕ) → n ≤ p → eqb (n + a) p ≡ eqb a (p - n)
eqb_shift n p a h = elim (cases_eq a (p - n)) [
  | inl e ↦ eq-eqb (n + a) p (omega arith) ∙ sym (eq-eqb a (p - n) e)
  | inr e ↦ ne_eqb (n + a) p (λ q. e (omega arith)) ∙ sym (ne_eqb a (p - n) e)
]

module _ (n p : ℕ) (xs ys : List Item) where
  part_low : p < n → filter (in_part p) (both n xs ys) ≡ filter (in_part p) xs
  part_low h =
      filter-append (in_part p) xs (map (raise n) ys)
      ∙ ap (λ zs. filter (in_part p) xs ++ zs) (kept_map (in_part p) (raise n) ys ∙ ap (map (raise n)) (kept_none (λ y. in_part p (raise n y)) ys (all_of (λ y. in_part p (raise n y) ≡ false) (λ y. ne_eqb (n + y.part) p (λ e. omega arith)) ys)))
      ∙ append-nil (filter (in_part p) xs)

  part_high : AllByRecursion (λ x. x.part < n) xs → n ≤ p → filter (in_part p) (both n xs ys) ≡ map (raise n) (filter (in_part (p - n)) ys)
  part_high low h =
      filter-append (in_part p) xs (map (raise n) ys)
      ∙ ap₂ (λ us vs. us ++ vs)
      (kept_none (in_part p) xs (All-weaker (λ x. x.part < n) (λ x. in_part p x ≡ false) (λ x q. ne_eqb x.part p (λ e. omega arith)) xs low))
      (kept_map (in_part p) (raise n) ys ∙ ap (map (raise n)) (kept_same (λ y. in_part p (raise n y)) (in_part (p - n)) ys (all_of (λ y. in_part p (raise n y) ≡ in_part (p - n) y) (λ y. eqb_shift n p y.part h) ys)))

  pub count_low : p < n → count_part p (both n xs ys) ≡ count_part p xs
  count_low h = ap length (part_low h)

  pub count_high : AllByRecursion (λ x. x.part < n) xs → n ≤ p → count_part p (both n xs ys) ≡ count_part (p - n) ys
  count_high low h = ap length (part_high low h) ∙ length-map (filter (in_part (p - n)) ys) (raise n)

  pub entry_low : (i : ℕ) → p < n → entry_at p i (both n xs ys) ≡ entry_at p i xs
  entry_low i h = ap (λ zs. slice_get zs i) (part_low h)

  item_raised : n ≤ p → (r : Option (Entry ℕ)) → option_map (item_at p) r ≡ option_map (raise n) (option_map (item_at (p - n)) r)
  item_raised h None = refl
  item_raised h (Some e) =
      let make : ℕ → Option Item = λ q. Some (record { part = q; place = e.place; dot = e.dot; code = e.value }) in
      let s : p ≡ n + (p - n) = omega arith in ap make s

  pub entry_high : (i : ℕ) → AllByRecursion (λ x. x.part < n) xs → n ≤ p → (r : Option (Entry ℕ)) → option_map (item_at (p - n)) r ≡ entry_at (p - n) i ys → option_map (item_at p) r ≡ entry_at p i (both n xs ys)
  entry_high i low h r e = item_raised h r ∙ ap (option_map (raise n)) e ∙ sym (nth_map (raise n) (filter (in_part (p - n)) ys) i) ∙ ap (λ zs. slice_get zs i) (sym (part_high low h))

-- a dot in the two

abbrev pub or_else : Option Item → Option Item → Option Item
or_else None o = o
or_else (Some x) o = Some x

or_else_out : (b : Bool) (x : Item) (o q : Option Item) → cond b (Some x) (or_else o q) ≡ or_else (cond b (Some x) o) q
or_else_out true x o q = refl
or_else_out false x o q = refl

pub find_append : (d : Dot) (xs zs : List Item) → find d (xs ++ zs) ≡ or_else (find d xs) (find d zs)
find_append d [] zs = refl
find_append d (x ∷ xs) zs = ap (cond (has_dot d x) (Some x)) (find_append d xs zs) ∙ or_else_out (has_dot d x) x (find d xs) (find d zs)

pub find_raise : (n : ℕ) (d : Dot) (ys : List Item) → find d (map (raise n) ys) ≡ option_map (raise n) (find d ys)
find_raise n d [] = refl
find_raise n d (y ∷ ys) = ap (cond (has_dot d y) (Some (raise n y))) (find_raise n d ys) ∙ cond_out (option_map (raise n)) (has_dot d y) (Some y) (find d ys)

pub find_all : (P : Item → Type 0) (d : Dot) (xs : List Item) → AllByRecursion P xs → IfSome (find d xs) P
find_all P d [] h = tt
find_all P d (x ∷ xs) h = cond_both (has_dot d x) (Some x) (find d xs) (λ o. IfSome o P) (λ _. h.0) (λ _. find_all P d xs h.1)

pub find_stands : (d : Dot) (xs : List Item) → is_some (find d xs) ≡ stands d xs
find_stands d [] = refl
find_stands d (x ∷ xs) = elim (cases_Bool (has_dot d x)) [
  | inl t ↦ ap is_some (cond-true (has_dot d x) (Some x) (find d xs) t) ∙ sym (or_left (has_dot d x) (stands d xs) t)
  | inr f ↦ ap is_some (cond-false (has_dot d x) (Some x) (find d xs) f) ∙ find_stands d xs ∙ ap (λ b. b || stands d xs) (sym f)
]

is_some_mapped : {X Y : Type 0} (f : X → Y) (r : Option X) → is_some (option_map f r) ≡ is_some r
is_some_mapped f None = refl
is_some_mapped f (Some x) = refl

-- what `is_some` of a `find` tells
pub told : (r : Option (ℕ × Entry ℕ)) (d : Dot) (ys : List Item) (b : Bool) → option_map (λ x. item_at x.0 x.1) r ≡ find d ys → b ≡ is_some r → stands d ys ≡ b
told r d ys b e h = sym (find_stands d ys) ∙ ap is_some (sym e) ∙ is_some_mapped (λ (x : ℕ × Entry ℕ). item_at x.0 x.1) r ∙ sym h

pub found_second : (n p q : ℕ) (d : Dot) (e : Entry ℕ) (xs ys : List Item) → None ≡ find d xs → Some (item_at p e) ≡ find d ys → q ≡ n + p → Some (item_at q e) ≡ find d (both n xs ys)
found_second n p q d e xs ys f s h =
    let make : ℕ → Option Item = λ m. Some (record { part = m; place = e.place; dot = e.dot; code = e.value }) in
    ap make h ∙ ap (option_map (raise n)) s ∙ sym (find_raise n d ys) ∙ ap (λ o. or_else o (find d (map (raise n) ys))) f ∙ sym (find_append d xs (map (raise n) ys))

pub found_first : (n : ℕ) (d : Dot) (x : Item) (xs ys : List Item) → Some x ≡ find d xs → Some x ≡ find d (both n xs ys)
found_first n d x xs ys f = ap (λ o. or_else o (find d (map (raise n) ys))) f ∙ sym (find_append d xs (map (raise n) ys))

pub found_none : (n : ℕ) (d : Dot) (xs ys : List Item) → None ≡ find d xs → None ≡ find d ys → None ≡ find d (both n xs ys)
found_none n d xs ys f s = ap (option_map (raise n)) s ∙ sym (find_raise n d ys) ∙ ap (λ o. or_else o (find d (map (raise n) ys))) f ∙ sym (find_append d xs (map (raise n) ys))

pub found_part : (m : ℕ) (d : Dot) (x : Item) (ys : List Item) → AllByRecursion (λ y. y.part < m) ys → Some x ≡ find d ys → x.part < m
found_part m d x ys h e = subst (λ o. IfSome o (λ y. y.part < m)) (sym e) (find_all (λ y. y.part < m) d ys h)

or_none : (a : Bool) → (a || false) ≡ a
or_none true = refl
or_none false = refl

stands_append : (d : Dot) (xs zs : List Item) → stands d (xs ++ zs) ≡ (stands d xs || stands d zs)
stands_append d [] zs = refl
stands_append d (x ∷ xs) zs = ap (λ b. has_dot d x || b) (stands_append d xs zs) ∙ sym (or_assoc (has_dot d x) (stands d xs) (stands d zs))

stands_raise : (n : ℕ) (d : Dot) (ys : List Item) → stands d (map (raise n) ys) ≡ stands d ys
stands_raise n d [] = refl
stands_raise n d (y ∷ ys) = ap (λ b. has_dot d y || b) (stands_raise n d ys)

pub strike_both : (n : ℕ) (d : Dot) (xs ys : List Item) → strike_items d (both n xs ys) ≡ both n (strike_items d xs) (strike_items d ys)
strike_both n d xs ys = filter-append (lacks d) xs (map (raise n) ys) ∙ ap (λ zs. strike_items d xs ++ zs) (kept_map (lacks d) (raise n) ys)

-- in a list whose dots are apart, a dot that stands in one part of it does not stand in the other
apart_left : (d : Dot) (xs zs : List Item) → Apart (xs ++ zs) → stands d zs ≡ true → AllByRecursion (λ y. has_dot d y ≡ false) xs
apart_left d [] zs a s = tt
apart_left d (x ∷ xs) zs a s = (
  elim (cases_Bool (has_dot d x)) [
    | inl t ↦ absurd (both_ways (stands d zs) (absent_stands d zs (all_right (λ y. has_dot d y ≡ false) xs zs (rest_absent d x (xs ++ zs) t a.0))) s)
    | inr f ↦ f
  ],
  apart_left d xs zs a.1 s,
)

apart_right : (d : Dot) (xs zs : List Item) → Apart (xs ++ zs) → stands d xs ≡ true → AllByRecursion (λ y. has_dot d y ≡ false) zs
apart_right d [] zs a s = absurd (both_ways false refl s)
apart_right d (x ∷ xs) zs a s = elim (or_cases (has_dot d x) (stands d xs) s) [
  | inl t ↦ all_right (λ y. has_dot d y ≡ false) xs zs (rest_absent d x (xs ++ zs) t a.0)
  | inr t ↦ apart_right d xs zs a.1 t
]

-- a put

other_part : (k : ValueKind) (x y : Item) → (y.part ≡ x.part → ⊥) → merge_dot k x y ≡ y
other_part k x y ne = cond_both (has_dot x.dot y) (merge k x y) y (λ z. z ≡ y)
    (λ _. cond-false (eqb y.part x.part && same_place y.place x.place) (recode y (k.join y.code x.code)) y (and_left (eqb y.part x.part) (same_place y.place x.place) (ne_eqb y.part x.part ne)))
    (λ _. refl)

other_dot : (k : ValueKind) (x y : Item) → has_dot x.dot y ≡ false → merge_dot k x y ≡ y
other_dot k x y f = cond-false (has_dot x.dot y) (merge k x y) y f

insert_low : (n : ℕ) (x : Item) (xs ys : List Item) → x.part < n → insert_item x (both n xs ys) ≡ both n (insert_item x xs) ys
insert_low n x [] [] h = refl
insert_low n x [] (y ∷ ys) h = cond-false (precedes (raise n y) x) (raise n y ∷ insert_item x (map (raise n) ys)) (x ∷ raise n y ∷ map (raise n) ys) (higher_follows x (raise n y) (omega arith))
insert_low n x (z ∷ xs) ys h =
    ap (λ w. cond (precedes z x) (z ∷ w) (x ∷ z ∷ both n xs ys)) (insert_low n x xs ys h)
    ∙ cond_out (λ w. w ++ map (raise n) ys) (precedes z x) (z ∷ insert_item x xs) (x ∷ z ∷ xs)

insert_high : (x : Item) (xs zs : List Item) → AllByRecursion (λ y. precedes y x ≡ true) xs → insert_item x (xs ++ zs) ≡ xs ++ insert_item x zs
insert_high x [] zs h = refl
insert_high x (y ∷ xs) zs h = cond-true (precedes y x) (y ∷ insert_item x (xs ++ zs)) (x ∷ y ∷ (xs ++ zs)) h.0 ∙ ap (λ w. y ∷ w) (insert_high x xs zs h.1)

insert_raise : (n : ℕ) (x : Item) (ys : List Item) → insert_item (raise n x) (map (raise n) ys) ≡ map (raise n) (insert_item x ys)
insert_raise n x [] = refl
insert_raise n x (y ∷ ys) =
    ap₂ (λ b w. cond b (raise n y ∷ w) (raise n x ∷ raise n y ∷ map (raise n) ys)) (precedes_raise n y x) (insert_raise n x ys)
    ∙ cond_out (map (raise n)) (precedes y x) (y ∷ insert_item x ys) (x ∷ y ∷ ys)

merge_raise : (n : ℕ) (k : ValueKind) (x y : Item) → merge_dot k (raise n x) (raise n y) ≡ raise n (merge_dot k x y)
merge_raise n k x y =
    let new : Item = recode y (k.join y.code x.code) in
    ap (λ w. cond (has_dot x.dot y) w (raise n y))
    (ap (λ q. cond (q && same_place y.place x.place) (raise n new) (raise n y)) (eqb_add n y.part x.part)
    ∙ cond_out (raise n) (eqb y.part x.part && same_place y.place x.place) new y)
    ∙ cond_out (raise n) (has_dot x.dot y) (merge k x y) y

merge_raise_all : (n : ℕ) (k : ValueKind) (x : Item) (ys : List Item) → map (merge_dot k (raise n x)) (map (raise n) ys) ≡ map (raise n) (map (merge_dot k x) ys)
merge_raise_all n k x [] = refl
merge_raise_all n k x (y ∷ ys) = ap₂ (λ z zs. z ∷ zs) (merge_raise n k x y) (merge_raise_all n k x ys)

module _ (n : ℕ) (k : ValueKind) (xs ys : List Item) where
  put_low : (x : Item) → x.part < n → stands x.dot ys ≡ false → put_items k x (both n xs ys) ≡ both n (put_items k x xs) ys
  put_low x h s =
      let rs = map (raise n) ys in
      let lacking : stands x.dot rs ≡ false = stands_raise n x.dot ys ∙ s in
      ap (λ b. cond b (map (merge_dot k x) (xs ++ rs)) (insert_item x (xs ++ rs))) (stands_append x.dot xs rs ∙ ap (λ b. stands x.dot xs || b) lacking ∙ or_none (stands x.dot xs))
      ∙ ap₂ (cond (stands x.dot xs)) (map-append (merge_dot k x) xs rs ∙ ap (λ w. map (merge_dot k x) xs ++ w) (merge_absent k x rs (absent_from x.dot rs lacking))) (insert_low n x xs ys h)
      ∙ cond_out (λ w. w ++ rs) (stands x.dot xs) (map (merge_dot k x) xs) (insert_item x xs)

  put_high : (x : Item) → AllByRecursion (λ y. y.part < n) xs → stands x.dot xs ≡ false → put_items k (raise n x) (both n xs ys) ≡ both n xs (put_items k x ys)
  put_high x low s =
      let rs = map (raise n) ys in
      ap (λ b. cond b (map (merge_dot k (raise n x)) (xs ++ rs)) (insert_item (raise n x) (xs ++ rs))) (stands_append x.dot xs rs ∙ ap₂ (λ a b. a || b) s (stands_raise n x.dot ys))
      ∙ ap₂ (cond (stands x.dot ys))
      (map-append (merge_dot k (raise n x)) xs rs ∙ ap₂ (λ v w. v ++ w) (merge_absent k (raise n x) xs (absent_from x.dot xs s)) (merge_raise_all n k x ys))
      (insert_high (raise n x) xs rs (All-weaker (λ y. y.part < n) (λ y. precedes y (raise n x) ≡ true) (λ y q. lower_precedes y (raise n x) (omega arith)) xs low) ∙ ap (λ w. xs ++ w) (insert_raise n x ys))
      ∙ cond_out (λ w. xs ++ map (raise n) w) (stands x.dot ys) (map (merge_dot k x) ys) (insert_item x ys)

  -- the dot stands in the other store
  put_other : (x : Item) → stands x.dot (both n xs ys) ≡ true → AllByRecursion (λ y. merge_dot k x y ≡ y) (both n xs ys) → put_items k x (both n xs ys) ≡ both n xs ys
  put_other x s h = cond-true (stands x.dot (both n xs ys)) (map (merge_dot k x) (both n xs ys)) (insert_item x (both n xs ys)) s ∙ map_same (merge_dot k x) (both n xs ys) h

accept_out : {X Y : Type 0} (f : X → Y) (o : Option Refusal) (x y : X) → accept o (f x) (f y) ≡ f (accept o x y)
accept_out f None x y = refl
accept_out f (Some e) x y = refl

-- a fault of the second store, as the pair counts its parts

renumbered_full : (p q : ℕ) (f : StoreFault) → refusal_of f ≡ part_full q → refusal_of (renumbered p f) ≡ part_full p
renumbered_full p q Address e = let z : ◌≡◌ {A = ℕ} 35 33 = ap (λ (r : Refusal). r.number) e in absurd (omega arith)
renumbered_full p q Unfit e = let z : ◌≡◌ {A = ℕ} 23 33 = ap (λ (r : Refusal). r.number) e in absurd (omega arith)
renumbered_full p q (Full m) e = refl

full_renumbered : (p q : ℕ) (b : Bool) (r : Option StoreFault) → option_map refusal_of r ≡ full_if q b → option_map refusal_of (option_map (renumbered p) r) ≡ full_if p b
full_renumbered p q true None e = absurd (some_none (sym e))
full_renumbered p q false None e = refl
full_renumbered p q true (Some f) e = ap Some (renumbered_full p q f (let h : refusal_of f ≡ part_full q = cc in h))
full_renumbered p q false (Some f) e = absurd (some_none e)

accept_full : {X : Type 0} (p q : ℕ) (b : Bool) (x y : X) → accept (full_if p b) x y ≡ accept (full_if q b) x y
accept_full p q true x y = refl
accept_full p q false x y = refl

-- orderly, and so at equal capacities and an equal list
pub orderly_at : (ks : List ValueKind) (cs ds : List ℕ) (zs ws : List Item) → ds ≡ cs → ws ≡ zs → Orderly ks cs zs → Orderly ks ds ws
orderly_at ks cs ds zs ws e f h = subst (λ us. Orderly ks us ws) (sym e) (subst (Orderly ks cs) (sym f) h)

-- what two stores are, and what they are as one
pub record Halves (ka kb : List ValueKind) (ca cb : List ℕ) (xs ys : List Item) : Type 0 where
  pub parts : FewParts ka
  pub roomy : Roomy ka ca
  pub first : Orderly ka ca xs
  pub orderly : Orderly (paired ka kb) (paired ca cb) (both (length ka) xs ys)

module _ {ka kb : List ValueKind} {ca cb : List ℕ} {xs ys : List Item} (two : Halves ka kb ca cb xs ys) (p : ℕ) (e : Entry ℕ) where
  few : length ka ≤ most_parts
  few = two.parts.few

  long : length ca ≡ length ka
  long = two.roomy.even

  low : AllByRecursion (λ x. x.part < length ka) xs
  low = all_placed ka xs two.first.proper

  abbrev ws : List Item
  ws = both (length ka) xs ys

  abbrev ks : List ValueKind
  ks = paired ka kb

  abbrev cs : List ℕ
  cs = paired ca cb

  module _ (fits : misfit ks p e ≡ None) where
    pub below : p < most_parts
    below = let q = (misfit_told ks p e fits).1.1.placed in let s = paired_short ka kb in omega arith

    refusal_is : put_refusal ks cs ws p e ≡ full_if p (crowded cs ws p e.dot)
    refusal_is = ap (λ o. first_of o (full_if p (crowded cs ws p e.dot))) fits

    -- the dot stands in the other store
    module _ (s : stands e.dot ws ≡ true) where
      stood : None ≡ put_refusal ks cs ws p e
      stood = sym (refusal_is ∙ ap (full_if p) (and_left (not (stands e.dot ws)) (leb (get_or cs p 0) (count_part p ws)) (ap not s)))

      stood_after : AllByRecursion (λ y. (k : ValueKind) → merge_dot k (item_at p e) y ≡ y) ws → ws ≡ put_after ks cs ws p e
      stood_after h = go (slice_get ks p) ∙ ap (λ o. accept o (put_of (slice_get ks p) (item_at p e) ws) ws) stood
        where
          go : (o : Option ValueKind) → ws ≡ put_of o (item_at p e) ws
          go None = refl
          go (Some k) = sym (put_other (length ka) k xs ys (item_at p e) s (All-weaker (λ y. (k : ValueKind) → merge_dot k (item_at p e) y ≡ y) (λ y. merge_dot k (item_at p e) y ≡ y) (λ y q. q k) ws h))

      stood_low : p < length ka → stands e.dot ys ≡ true → ws ≡ put_after ks cs ws p e
      stood_low h t =
          let a = two.orderly.apart in
          let n = length ka in
          let Q : Item → Type 0 = λ y. (k : ValueKind) → merge_dot k (item_at p e) y ≡ y in
          stood_after (All-append Q xs (map (raise n) ys)
          (All-weaker (λ y. has_dot e.dot y ≡ false) Q (λ y f k. other_dot k (item_at p e) y f) xs (apart_left e.dot xs (map (raise n) ys) a (stands_raise n e.dot ys ∙ t)))
          (raised ys))
        where
          raised : (vs : List Item) → AllByRecursion (λ y. (k : ValueKind) → merge_dot k (item_at p e) y ≡ y) (map (raise (length ka)) vs)
          raised [] = tt
          raised (v ∷ vs) = ((λ k. other_part k (item_at p e) (raise (length ka) v) (λ q. omega arith)), raised vs)

      stood_high : length ka ≤ p → stands e.dot xs ≡ true → ws ≡ put_after ks cs ws p e
      stood_high h t =
          let a = two.orderly.apart in
          let n = length ka in
          let Q : Item → Type 0 = λ y. (k : ValueKind) → merge_dot k (item_at p e) y ≡ y in
          stood_after (All-append Q xs (map (raise n) ys)
          (All-weaker (λ y. y.part < n) Q (λ y l k. other_part k (item_at p e) y (λ q. omega arith)) xs low)
          (All-weaker (λ y. has_dot e.dot y ≡ false) Q (λ y f k. other_dot k (item_at p e) y f) (map (raise n) ys) (apart_right e.dot xs (map (raise n) ys) a t)))

    -- handed on to the second store
    module _ (h : length ka ≤ p) (s : stands e.dot xs ≡ false) where
      abbrev q : ℕ
      q = p - length ka

      crowded_high : crowded cs ws p e.dot ≡ crowded cb ys q e.dot
      crowded_high =
          let st : stands e.dot ws ≡ stands e.dot ys = stands_append e.dot xs (map (raise (length ka)) ys) ∙ ap₂ (λ a b. a || b) s (stands_raise (length ka) e.dot ys) in
          ap (λ b. not b && leb (get_or cs p 0) (count_part p ws)) st
          ∙ ap₂ (λ c m. not (stands e.dot ys) && leb c m) (room_high ca cb p (length ka) long h below) (count_high (length ka) p xs ys low h)

      second_is : put_refusal kb cb ys q e ≡ full_if q (crowded cb ys q e.dot)
      second_is = ap (λ o. first_of o (full_if q (crowded cb ys q e.dot))) (ap (λ o. misfit_of o e) (sym (nth_high ka kb p h below)) ∙ fits)

      pub answer_high : (r : Option StoreFault) → option_map refusal_of r ≡ put_refusal kb cb ys q e → option_map refusal_of (option_map (renumbered p) r) ≡ put_refusal ks cs ws p e
      answer_high r a = full_renumbered p q (crowded cb ys q e.dot) r (a ∙ second_is) ∙ ap (full_if p) (sym crowded_high) ∙ sym refusal_is

      same_item : item_at p e ≡ raise (length ka) (item_at q e)
      same_item = let s : p ≡ length ka + (p - length ka) = omega arith in ap (λ j. record { part = j; place = e.place; dot = e.dot; code = e.value }) s

      put_is : (o : Option ValueKind) → put_of o (item_at p e) ws ≡ both (length ka) xs (put_of o (item_at q e) ys)
      put_is None = refl
      put_is (Some k) = ap (λ x. put_items k x ws) same_item ∙ put_high (length ka) k xs ys (item_at q e) low s

      pub after_high : both (length ka) xs (put_after kb cb ys q e) ≡ put_after ks cs ws p e
      after_high =
          let b = crowded cb ys q e.dot in
          sym (ap (λ f. accept f (put_of (slice_get ks p) (item_at p e) ws) ws) (refusal_is ∙ ap (full_if p) crowded_high)
          ∙ accept_full p q b (put_of (slice_get ks p) (item_at p e) ws) ws
          ∙ ap (λ o. accept (full_if q b) (put_of o (item_at p e) ws) ws) (nth_high ka kb p h below)
          ∙ ap (λ w. accept (full_if q b) w ws) (put_is (slice_get kb q))
          ∙ accept_out (λ w. both (length ka) xs w) (full_if q b) (put_of (slice_get kb q) (item_at q e) ys) ys
          ∙ ap (λ f. both (length ka) xs (accept f (put_of (slice_get kb q) (item_at q e) ys) ys)) (sym second_is))

  stands_second : stands e.dot ys ≡ true → stands e.dot ws ≡ true
  stands_second t = stands_append e.dot xs (map (raise (length ka)) ys) ∙ or_right (stands e.dot xs) (stands e.dot (map (raise (length ka)) ys)) (stands_raise (length ka) e.dot ys ∙ t)

  stands_first : stands e.dot xs ≡ true → stands e.dot ws ≡ true
  stands_first t = stands_append e.dot xs (map (raise (length ka)) ys) ∙ or_left (stands e.dot xs) (stands e.dot (map (raise (length ka)) ys)) t

  -- handed on to the first store
  pub answer_low : p < length ka → stands e.dot ys ≡ false → put_refusal ka ca xs p e ≡ put_refusal ks cs ws p e
  answer_low h s =
      let rs = map (raise (length ka)) ys in
      let st : stands e.dot ws ≡ stands e.dot xs = stands_append e.dot xs rs ∙ ap (λ b. stands e.dot xs || b) (stands_raise (length ka) e.dot ys ∙ s) ∙ or_none (stands e.dot xs) in
      sym (ap₂ (λ o b. first_of (misfit_of o e) (full_if p b)) (nth_low ka kb p few h)
      (ap (λ b. not b && leb (get_or cs p 0) (count_part p ws)) st
      ∙ ap₂ (λ c m. not (stands e.dot xs) && leb c m) (room_low ca cb p (omega arith) (omega arith)) (count_low (length ka) p xs ys h)))

  pub after_low : p < length ka → stands e.dot ys ≡ false → both (length ka) (put_after ka ca xs p e) ys ≡ put_after ks cs ws p e
  after_low h s =
      sym (ap₂ (λ f o. accept f (put_of o (item_at p e) ws) ws) (sym (answer_low h s)) (nth_low ka kb p few h)
      ∙ ap (λ w. accept (put_refusal ka ca xs p e) w ws) (go (slice_get ka p))
      ∙ accept_out (λ w. both (length ka) w ys) (put_refusal ka ca xs p e) (put_of (slice_get ka p) (item_at p e) xs) xs)
    where
      go : (o : Option ValueKind) → put_of o (item_at p e) ws ≡ both (length ka) (put_of o (item_at p e) xs) ys
      go None = refl
      go (Some k) = put_low (length ka) k xs ys (item_at p e) h s

  pub put_keeps : (ds : List ℕ) (zs : List Item) → ds ≡ cs → zs ≡ put_after ks cs ws p e → Orderly ks ds zs
  put_keeps ds zs r a = orderly_at ks cs ds (put_after ks cs ws p e) zs r a (orderly_put ks cs ws p e two.orderly)

  -- an entry of one store, whose dot stands in the other
  module _ (fits : misfit ks p e ≡ None) where
    pub stays_low : p < length ka → stands e.dot ys ≡ true → (None ≡ put_refusal ks cs ws p e) × (ws ≡ put_after ks cs ws p e)
    stays_low h t = let s = stands_second t in (stood fits s, stood_low fits s h t)

    pub stays_high : length ka ≤ p → stands e.dot xs ≡ true → (None ≡ put_refusal ks cs ws p e) × (ws ≡ put_after ks cs ws p e)
    stays_high h t = let s = stands_first t in (stood fits s, stood_high fits s h t)
