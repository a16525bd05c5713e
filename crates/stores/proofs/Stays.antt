-- Puts and strikes keep items orderly.
use Rattle.std.proofs.Common.{◌≡◌, ℕ, zero, suc, ◌<◌, ◌≤◌, Bool, true, false, cond, not, ◌&&◌, eqb, leb, List, [], ◌∷◌, map, length, get_or, Some, None, filter, Option, sym, refl, ap, ◌∙◌, subst, ap₂, arith}
use Rattle.std.specs.List.{slice_get, AllByRecursion}
use Rattle.std.proofs.lemmas.Bool.{cond_both, or_parts, both_ways, and_parts, eqb-true, leb-false}
use Rattle.std.proofs.ByRecursion.{all_kept_by, All-weaker}
use Rattle.causal.specs.declared.dots.Dot.{Dot}
use Rattle.causal.specs.Places.{same_place}
use Rattle.kinds.specs.Kinds.{ValueKind}
use Rattle.refusals.specs.declared.Refusal.{Refusal}
use Rattle.stores.specs.declared.entries.Entry.{Entry}
use Rattle.stores.specs.Items.{Item, item_at, has_dot, stands, in_part, count_part, recode, merge, merge_dot, Apart, Ascends, insert_item, precedes, put_items, strike_items}
use Rattle.stores.specs.Faults.{bad_address, bad_code}
use Rattle.stores.specs.Puts.{is_address, fits_kind, fits_part, misfit_of, misfit, crowded, full_if, first_of, put_refusal, accept, put_of, put_after}
use Rattle.stores.specs.Sound.{Proper, Orderly}
use Rattle.stores.proofs.ItemOrder.{precedes_transitive, precedes_other, dot_turned}
use Rattle.stores.proofs.Held.{lacks}

pub cond_out : {X Y : Type 0} (f : X → Y) (b : Bool) (x y : X) → cond b (f x) (f y) ≡ f (cond b x y)
cond_out f true x y = refl
cond_out f false x y = refl

pub some_none : {X : Type 0} {x : X} → Some x ≡ None → ⊥
some_none e = let z : ◌≡◌ {A = ℕ} 0 1 = cc in omega arith

-- what is kept

pub ascends_kept : (f : Item → Bool) (xs : List Item) → Ascends xs → Ascends (filter f xs)
ascends_kept f [] h = tt
ascends_kept f (x ∷ xs) h = cond_both (f x) (x ∷ filter f xs) (filter f xs) Ascends
    (λ _. (all_kept_by f (λ y. precedes x y ≡ true) xs h.0, ascends_kept f xs h.1)) (λ _. ascends_kept f xs h.1)

pub apart_kept : (f : Item → Bool) (xs : List Item) → Apart xs → Apart (filter f xs)
apart_kept f [] h = tt
apart_kept f (x ∷ xs) h = cond_both (f x) (x ∷ filter f xs) (filter f xs) Apart
    (λ _. (all_kept_by f (λ y. has_dot x.dot y ≡ false) xs h.0, apart_kept f xs h.1)) (λ _. apart_kept f xs h.1)

pub count_first : (p : ℕ) (x : Item) (xs : List Item) → count_part p (x ∷ xs) ≡ cond (in_part p x) (suc (count_part p xs)) (count_part p xs)
count_first p x xs = sym (cond_out length (in_part p x) (x ∷ filter (in_part p) xs) (filter (in_part p) xs))

count_grows : (p : ℕ) (x : Item) (xs : List Item) → count_part p xs ≤ count_part p (x ∷ xs)
count_grows p x xs = subst (λ n. count_part p xs ≤ n) (sym (count_first p x xs)) (cond_both (in_part p x) (suc (count_part p xs)) (count_part p xs) (λ n. count_part p xs ≤ n) (λ _. omega arith) (λ _. omega arith))

cond_more : (b : Bool) (m n : ℕ) → m ≤ n → cond b (suc m) m ≤ cond b (suc n) n
cond_more true m n h = omega arith
cond_more false m n h = h

pub count_kept : (p : ℕ) (f : Item → Bool) (xs : List Item) → count_part p (filter f xs) ≤ count_part p xs
count_kept p f [] = omega arith
count_kept p f (x ∷ xs) =
    let i = count_kept p f xs in
    let g = count_grows p x xs in
    cond_both (f x) (x ∷ filter f xs) (filter f xs) (λ ys. count_part p ys ≤ count_part p (x ∷ xs))
    (λ _. let a = count_first p x (filter f xs) in let b = count_first p x xs in let m = cond_more (in_part p x) (count_part p (filter f xs)) (count_part p xs) i in omega arith)
    (λ _. omega arith)

-- a change of codes alone

module _ (f : Item → Item) (code : Item → ℕ) (same : (x : Item) → f x ≡ recode x (code x)) where
  all_order : (x : Item) (xs : List Item) → AllByRecursion (λ y. precedes x y ≡ true) xs → AllByRecursion (λ y. precedes (f x) y ≡ true) (map f xs)
  all_order x [] h = tt
  all_order x (y ∷ ys) h = (ap₂ precedes (same x) (same y) ∙ h.0, all_order x ys h.1)

  pub ascends_map : (xs : List Item) → Ascends xs → Ascends (map f xs)
  ascends_map [] h = tt
  ascends_map (x ∷ xs) h = (all_order x xs h.0, ascends_map xs h.1)

  all_apart : (x : Item) (xs : List Item) → AllByRecursion (λ y. has_dot x.dot y ≡ false) xs → AllByRecursion (λ y. has_dot (f x).dot y ≡ false) (map f xs)
  all_apart x [] h = tt
  all_apart x (y ∷ ys) h = (ap₂ (λ u v. has_dot u.dot v) (same x) (same y) ∙ h.0, all_apart x ys h.1)

  pub apart_map : (xs : List Item) → Apart xs → Apart (map f xs)
  apart_map [] h = tt
  apart_map (x ∷ xs) h = (all_apart x xs h.0, apart_map xs h.1)

  pub count_map : (p : ℕ) (xs : List Item) → count_part p (map f xs) ≡ count_part p xs
  count_map p [] = refl
  count_map p (x ∷ xs) =
      count_first p (f x) (map f xs) ∙ ap₂ (λ y n. cond (in_part p y) (suc n) n) (same x) (count_map p xs) ∙ sym (count_first p x xs)

pub merge_recodes : (k : ValueKind) (x y : Item) → merge_dot k x y ≡ recode y (merge_dot k x y).code
merge_recodes k x y = cond_both (has_dot x.dot y) (merge k x y) y (λ z. z ≡ recode y z.code)
    (λ _. cond_both (eqb y.part x.part && same_place y.place x.place) (recode y (k.join y.code x.code)) y (λ z. z ≡ recode y z.code) (λ _. refl) (λ _. refl))
    (λ _. refl)

-- an insertion

pub all_insert : (P : Item → Type 0) (x : Item) (xs : List Item) → P x → AllByRecursion P xs → AllByRecursion P (insert_item x xs)
all_insert P x [] p h = (p, tt)
all_insert P x (y ∷ ys) p h = cond_both (precedes y x) (y ∷ insert_item x ys) (x ∷ y ∷ ys) (AllByRecursion P) (λ _. (h.0, all_insert P x ys p h.1)) (λ _. (p, h))

pub ascends_insert : (x : Item) (xs : List Item) → stands x.dot xs ≡ false → Ascends xs → Ascends (insert_item x xs)
ascends_insert x [] s h = (tt, tt)
ascends_insert x (y ∷ ys) s h =
    let o = or_parts (has_dot x.dot y) (stands x.dot ys) s in
    cond_both (precedes y x) (y ∷ insert_item x ys) (x ∷ y ∷ ys) Ascends
    (λ t. (all_insert (λ z. precedes y z ≡ true) x ys t h.0, ascends_insert x ys o.1 h.1))
    (λ f. let before : precedes x y ≡ true = precedes_other y x o.0 f in
    ((before, All-weaker (λ z. precedes y z ≡ true) (λ z. precedes x z ≡ true) (λ z. precedes_transitive x y z before) ys h.0), h))

pub absent_from : (d : Dot) (xs : List Item) → stands d xs ≡ false → AllByRecursion (λ y. has_dot d y ≡ false) xs
absent_from d [] h = tt
absent_from d (x ∷ xs) h = let o = or_parts (has_dot d x) (stands d xs) h in (o.0, absent_from d xs o.1)

pub apart_insert : (x : Item) (xs : List Item) → stands x.dot xs ≡ false → Apart xs → Apart (insert_item x xs)
apart_insert x [] s h = (tt, tt)
apart_insert x (y ∷ ys) s h =
    let o = or_parts (has_dot x.dot y) (stands x.dot ys) s in
    cond_both (precedes y x) (y ∷ insert_item x ys) (x ∷ y ∷ ys) Apart
    (λ _. (all_insert (λ z. has_dot y.dot z ≡ false) x ys (dot_turned y.dot x.dot o.0) h.0, apart_insert x ys o.1 h.1))
    (λ _. (absent_from x.dot (y ∷ ys) s, h))

two_more : (a b : Bool) (n : ℕ) → cond a (suc (cond b (suc n) n)) (cond b (suc n) n) ≡ cond b (suc (cond a (suc n) n)) (cond a (suc n) n)
two_more true true n = refl
two_more true false n = refl
two_more false true n = refl
two_more false false n = refl

pub count_insert : (p : ℕ) (x : Item) (xs : List Item) → count_part p (insert_item x xs) ≡ cond (in_part p x) (suc (count_part p xs)) (count_part p xs)
count_insert p x [] = count_first p x []
count_insert p x (y ∷ ys) = cond_both (precedes y x) (y ∷ insert_item x ys) (x ∷ y ∷ ys) (λ zs. count_part p zs ≡ cond (in_part p x) (suc (count_part p (y ∷ ys))) (count_part p (y ∷ ys)))
    (λ _. count_first p y (insert_item x ys) ∙ ap (λ n. cond (in_part p y) (suc n) n) (count_insert p x ys) ∙ two_more (in_part p y) (in_part p x) (count_part p ys)
    ∙ ap (λ n. cond (in_part p x) (suc n) n) (sym (count_first p y ys)))
    (λ _. count_first p x (y ∷ ys))

-- a put

pub fits_told : (ks : List ValueKind) (p : ℕ) (k : ValueKind) (c : ℕ) → slice_get ks p ≡ Some k → fits_part ks p c ≡ k.fits c
fits_told ks p k c e = ap (λ o. fits_kind o c) e

proper_merge : (ks : List ValueKind) (k : ValueKind) (x y : Item) → slice_get ks x.part ≡ Some k → Proper ks x → Proper ks y → Proper ks (merge_dot k x y)
proper_merge ks k x y n hx hy =
    cond_both (has_dot x.dot y) (merge k x y) y (Proper ks)
    (λ _. cond_both (eqb y.part x.part && same_place y.place x.place) (recode y (k.join y.code x.code)) y (Proper ks)
    (λ t. joined (eqb-true y.part x.part (and_parts (eqb y.part x.part) (same_place y.place x.place) t).0))
    (λ _. hy))
    (λ _. hy)
  where
    joined : y.part ≡ x.part → Proper ks (recode y (k.join y.code x.code))
    joined e =
        let m : slice_get ks y.part ≡ Some k = ap (slice_get ks) e ∙ n in
        record {
          placed = hy.placed;
          address = hy.address;
          fits = fits_told ks y.part k (k.join y.code x.code) m
              ∙ k.closed y.code x.code (sym (fits_told ks y.part k y.code m) ∙ hy.fits) (sym (fits_told ks x.part k x.code n) ∙ hx.fits);
        }

all_proper : (ks : List ValueKind) (k : ValueKind) (x : Item) (xs : List Item) → slice_get ks x.part ≡ Some k → Proper ks x → AllByRecursion (Proper ks) xs → AllByRecursion (Proper ks) (map (merge_dot k x) xs)
all_proper ks k x [] n hx h = tt
all_proper ks k x (y ∷ ys) n hx h = (proper_merge ks k x y n hx h.0, all_proper ks k x ys n hx h.1)

room_for : (p : ℕ) (x : Item) (n m : ℕ) → n ≤ m → (x.part ≡ p → n < m) → cond (in_part p x) (suc n) n ≤ m
room_for p x n m h r = cond_both (in_part p x) (suc n) n (λ z. z ≤ m) (λ t. let e = eqb-true x.part p t in omega (arith, r e)) (λ _. h)

module _ (ks : List ValueKind) (caps : List ℕ) where
  pub orderly_put_items : (k : ValueKind) (x : Item) (xs : List Item) → slice_get ks x.part ≡ Some k → Proper ks x
      → (stands x.dot xs ≡ false → count_part x.part xs < get_or caps x.part 0) → Orderly ks caps xs → Orderly ks caps (put_items k x xs)
  orderly_put_items k x xs n hx room h = cond_both (stands x.dot xs) (map (merge_dot k x) xs) (insert_item x xs) (Orderly ks caps)
      (λ _. record {
        ascends = ascends_map (merge_dot k x) (λ y. (merge_dot k x y).code) (merge_recodes k x) xs h.ascends;
        apart = apart_map (merge_dot k x) (λ y. (merge_dot k x y).code) (merge_recodes k x) xs h.apart;
        proper = all_proper ks k x xs n hx h.proper;
        within = λ p. subst (λ m. m ≤ get_or caps p 0) (sym (count_map (merge_dot k x) (λ y. (merge_dot k x y).code) (merge_recodes k x) p xs)) (h.within p);
      })
      (λ f. record {
        ascends = ascends_insert x xs f h.ascends;
        apart = apart_insert x xs f h.apart;
        proper = all_insert (Proper ks) x xs hx h.proper;
        within = λ p. subst (λ m. m ≤ get_or caps p 0) (sym (count_insert p x xs))
            (room_for p x (count_part p xs) (get_or caps p 0) (h.within p) (λ e. subst (λ q. count_part q xs < get_or caps q 0) e (room f)));
      })

  pub orderly_strike : (d : Dot) (xs : List Item) → Orderly ks caps xs → Orderly ks caps (strike_items d xs)
  orderly_strike d xs h = record {
    ascends = ascends_kept (lacks d) xs h.ascends;
    apart = apart_kept (lacks d) xs h.apart;
    proper = all_kept_by (lacks d) (Proper ks) xs h.proper;
    within = λ p. let a = count_kept p (lacks d) xs in let b = h.within p in omega arith;
  }

  pub orderly_none : Orderly ks caps []
  orderly_none = record { ascends = tt; apart = tt; proper = tt; within = λ p. omega arith }

-- an entry with which nothing is wrong

placed_told : (ks : List ValueKind) (p : ℕ) (k : ValueKind) → slice_get ks p ≡ Some k → p < length ks
placed_told [] p k e = absurd (some_none (sym e))
placed_told (l ∷ ks) zero k e = omega arith
placed_told (l ∷ ks) (suc p) k e = let i = placed_told ks p k e in omega arith

split_misfit : (a f : Bool) → cond a (cond f None (Some bad_code)) (Some bad_address) ≡ None → (a ≡ true) × (f ≡ true)
split_misfit true true e = (refl, refl)
split_misfit true false e = absurd (some_none e)
split_misfit false f e = absurd (some_none e)

pub misfit_told : (ks : List ValueKind) (p : ℕ) (e : Entry ℕ) → misfit ks p e ≡ None → (k : ValueKind) × ((slice_get ks p ≡ Some k) × Proper ks (item_at p e))
misfit_told ks p e h = go (slice_get ks p) refl
  where
    go : (o : Option ValueKind) → slice_get ks p ≡ o → (k : ValueKind) × ((slice_get ks p ≡ Some k) × Proper ks (item_at p e))
    go None q = absurd (some_none (sym (ap (λ o. misfit_of o e) q) ∙ h))
    go (Some k) q =
        let s = split_misfit (is_address e.place e.dot) (k.fits e.value) (sym (ap (λ o. misfit_of o e) q) ∙ h) in
        (k, (q, record { placed = placed_told ks p k q; address = s.0; fits = fits_told ks p k e.value q ∙ s.1 }))

pub first_none : (f g : Option Refusal) → first_of f g ≡ None → (f ≡ None) × (g ≡ None)
first_none None g e = (refl, e)
first_none (Some f) g e = absurd (some_none e)

full_none : (p : ℕ) (b : Bool) → full_if p b ≡ None → b ≡ false
full_none p true e = absurd (some_none e)
full_none p false e = refl

uncrowded : (s l : Bool) → (not s && l) ≡ false → s ≡ false → l ≡ false
uncrowded true l e f = absurd (both_ways true f refl)
uncrowded false l e f = e

pub orderly_put : (ks : List ValueKind) (caps : List ℕ) (xs : List Item) (p : ℕ) (e : Entry ℕ) → Orderly ks caps xs → Orderly ks caps (put_after ks caps xs p e)
orderly_put ks caps xs p e h = go (put_refusal ks caps xs p e) refl
  where
    put : (o : Option ValueKind) → slice_get ks p ≡ o → misfit ks p e ≡ None → crowded caps xs p e.dot ≡ false → Orderly ks caps (put_of o (item_at p e) xs)
    put None q m c = h
    put (Some k) q m c = orderly_put_items ks caps k (item_at p e) xs q (misfit_told ks p e m).1.1
        (λ f. leb-false (get_or caps p 0) (count_part p xs) (uncrowded (stands e.dot xs) (leb (get_or caps p 0) (count_part p xs)) c f)) h

    go : (o : Option Refusal) → put_refusal ks caps xs p e ≡ o → Orderly ks caps (accept o (put_of (slice_get ks p) (item_at p e) xs) xs)
    go (Some f) q = h
    go None q =
        let n = first_none (misfit ks p e) (full_if p (crowded caps xs p e.dot)) q in
        put (slice_get ks p) refl n.0 (full_none p (crowded caps xs p e.dot) n.1)

pub all_placed : (ks : List ValueKind) (xs : List Item) → AllByRecursion (Proper ks) xs → AllByRecursion (λ x. x.part < length ks) xs
all_placed ks xs h = All-weaker (Proper ks) (λ x. x.part < length ks) (λ x q. q.placed) xs h
