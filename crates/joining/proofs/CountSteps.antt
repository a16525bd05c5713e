-- How many items a part has after a join.
use Rattle.std.proofs.Common.{◌≡◌, ℕ, zero, suc, ◌+◌, ◌-◌, ◌<◌, ◌≤◌, Bool, true, false, cond, not, ◌&&◌, ltb, List, [], ◌∷◌, map, length, get_or, drop, is_some, Some, None, filter, Option, sym, refl, ap, ◌∙◌, ap₂, arith}
use Rattle.std.specs.List.{AllWithin, HoldsAt}
use Rattle.std.specs.Option.{MatchOption}
use Rattle.std.proofs.lemmas.Bool.{cond-true, cond-false, lt-ltb, le-ltb}
use Rattle.std.proofs.ByRecursion.{All-get_or}
use Rattle.kinds.specs.Kinds.{ValueKind}
use Rattle.causal.specs.Runs.{has}
use Rattle.stores.specs.declared.entries.Entry.{Entry}
use Rattle.stores.specs.Items.{Item, entry_of, stands, find, in_part, count_part}
use Rattle.stores.specs.Sound.{Roomy, most_entries}
use Rattle.stores.proofs.Stays.{count_first, count_insert}
use Rattle.groups.specs.Groups.{Group, meet, settle, stays, comes, lead, keep, insert_items, joined}
use Rattle.groups.proofs.Meets.{meet_recodes}
use Rattle.joining.specs.Questions.{struck, arrives, overfull_from, elsewhere, elsewhere_from}
use Rattle.joining.specs.Strikes.{spared, remaining}
use Rattle.joining.proofs.Struck.{kept_turned}
use Rattle.joining.proofs.EnterSteps.{found_stands}

added : (b : Bool) (m n : ℕ) → cond b (suc (m + n)) (m + n) ≡ cond b (suc m) m + n
added true m n = omega arith
added false m n = refl

count_inserts : (p : ℕ) (ys xs : List Item) → count_part p (insert_items ys xs) ≡ count_part p ys + count_part p xs
count_inserts p [] xs = omega arith
count_inserts p (y ∷ ys) xs =
    count_insert p y (insert_items ys xs) ∙ ap (λ n. cond (in_part p y) (suc n) n) (count_inserts p ys xs)
    ∙ added (in_part p y) (count_part p ys) (count_part p xs) ∙ ap (λ n. n + count_part p xs) (sym (count_first p y ys))

count_comes : (p : ℕ) (g : Group) (ys : List Item) → count_part p (keep (comes g) ys) ≡ length (filter (arrives g.runs p) ys)
unfolding arrives
count_comes p g [] = refl
count_comes p g (y ∷ ys) = go (has g.runs y.dot) (in_part p y) refl refl (count_comes p g ys)
  where
    go : (b a : Bool) → has g.runs y.dot ≡ b → in_part p y ≡ a → count_part p (keep (comes g) ys) ≡ length (filter (arrives g.runs p) ys)
        → count_part p (lead (cond b None (Some y)) (keep (comes g) ys)) ≡ length (cond (a && not b) (y ∷ filter (arrives g.runs p) ys) (filter (arrives g.runs p) ys))
    go true true e k i = i
    go true false e k i = i
    go false true e k i = count_first p y (keep (comes g) ys) ∙ cond-true (in_part p y) _ _ k ∙ ap suc i
    go false false e k i = count_first p y (keep (comes g) ys) ∙ cond-false (in_part p y) _ _ k ∙ i

count_stays : (p : ℕ) (ks : List ValueKind) (h : Group) (xs : List Item) → count_part p (keep (stays ks h) xs) ≡ count_part p (remaining h xs)
unfolding struck
count_stays p ks h [] = refl
count_stays p ks h (x ∷ xs) = go (find x.dot h.items) (has h.runs x.dot) (sym (found_stands x.dot h.items)) refl (count_stays p ks h xs)
  where
    both : (z : Item) → in_part p z ≡ in_part p x → count_part p (keep (stays ks h) xs) ≡ count_part p (remaining h xs) → count_part p (z ∷ keep (stays ks h) xs) ≡ count_part p (x ∷ remaining h xs)
    both z e i = count_first p z (keep (stays ks h) xs) ∙ ap₂ (λ b n. cond b (suc n) n) e i ∙ sym (count_first p x (remaining h xs))

    open_way : (b : Bool) → (b && false) ≡ false
    open_way true = refl
    open_way false = refl

    go : (o : Option Item) (b : Bool) → stands x.dot h.items ≡ is_some o → has h.runs x.dot ≡ b → count_part p (keep (stays ks h) xs) ≡ count_part p (remaining h xs)
        → count_part p (lead (settle ks x o b) (keep (stays ks h) xs)) ≡ count_part p (cond (not (b && not (stands x.dot h.items))) (x ∷ remaining h xs) (remaining h xs))
    go (Some y) b e k i = both (meet ks x y) (ap (in_part p) (meet_recodes ks x y)) i ∙ sym (ap (λ s. count_part p (cond (not (b && not s)) (x ∷ remaining h xs) (remaining h xs))) e ∙ ap (λ s. count_part p (cond (not s) (x ∷ remaining h xs) (remaining h xs))) (open_way b))
    go None true e k i = i ∙ sym (ap (λ s. count_part p (cond (not (not s)) (x ∷ remaining h xs) (remaining h xs))) e)
    go None false e k i = both x refl i

-- those that stay and those that come
pub count_joined : (p : ℕ) (ks : List ValueKind) (g h : Group)
    → count_part p (joined ks g h).items ≡ length (filter (spared h) (filter (in_part p) g.items)) + length (filter (arrives g.runs p) h.items)
count_joined p ks g h =
    let a = count_inserts p (keep (comes g) h.items) (keep (stays ks h) g.items) in
    let b = count_comes p g h.items in
    let c = count_stays p ks h g.items in
    let d = ap length (kept_turned (in_part p) (spared h) g.items) in
    omega arith

-- the walk over the parts

pub overfull_here : (caps : List ℕ) (xs : List Item) (n p : ℕ) → p < n → get_or caps p 0 < count_part p xs → Some p ≡ overfull_from caps xs (n - p) p
overfull_here caps xs n p l f =
    let e : n - p ≡ suc (n - (p + 1)) = omega arith in
    sym (ap (λ m. overfull_from caps xs m p) e ∙ cond-true (ltb (get_or caps p 0) (count_part p xs)) (Some p) (overfull_from caps xs (n - (p + 1)) (p + 1)) (lt-ltb (get_or caps p 0) (count_part p xs) f))

pub overfull_later : (caps : List ℕ) (xs : List Item) (n p : ℕ) → p < n → count_part p xs ≤ get_or caps p 0 → overfull_from caps xs (n - (p + 1)) (p + 1) ≡ overfull_from caps xs (n - p) p
overfull_later caps xs n p l f =
    let e : n - p ≡ suc (n - (p + 1)) = omega arith in
    sym (ap (λ m. overfull_from caps xs m p) e ∙ cond-false (ltb (get_or caps p 0) (count_part p xs)) (Some p) (overfull_from caps xs (n - (p + 1)) (p + 1)) (le-ltb (get_or caps p 0) (count_part p xs) f))

pub overfull_past : (caps : List ℕ) (xs : List Item) (n p : ℕ) → n ≤ p → None ≡ overfull_from caps xs (n - p) p
overfull_past caps xs n p l = let e : n - p ≡ 0 = omega arith in sym (ap (λ m. overfull_from caps xs m p) e)

-- the group's items whose dots stand elsewhere

module _ (xs : List Item) where
  abbrev Displaced : Item → Type 0
  Displaced y = elsewhere xs y ≡ true

  abbrev InPlace : Item → Type 0
  InPlace y = elsewhere xs y ≡ false

  none_elsewhere : (n : ℕ) (ys : List Item) → AllWithin InPlace ys 0 (length ys) → None ≡ elsewhere_from xs n ys
  none_elsewhere n [] h = refl
  none_elsewhere n (y ∷ ys) h =
      none_elsewhere (n + 1) ys (λ k d l u. h (suc k) d (omega arith) (omega arith))
      ∙ sym (cond-false (elsewhere xs y) (Some n) (elsewhere_from xs (n + 1) ys) (h 0 y (omega arith) (omega arith)))

  one_elsewhere : (n i : ℕ) (ys : List Item) → i < length ys → HoldsAt Displaced ys i → AllWithin InPlace ys 0 i → Some (n + i) ≡ elsewhere_from xs n ys
  one_elsewhere n i [] l t h = absurd (omega arith)
  one_elsewhere n zero (y ∷ ys) l t h = let e : n + 0 ≡ n = omega arith in ap Some e ∙ sym (cond-true (elsewhere xs y) (Some n) (elsewhere_from xs (n + 1) ys) (t y))
  one_elsewhere n (suc i) (y ∷ ys) l t h =
      let e : n + suc i ≡ n + 1 + i = omega arith in
      ap Some e ∙ one_elsewhere (n + 1) i ys (omega arith) (λ d. t d) (λ k d a u. h (suc k) d (omega arith) (omega arith))
      ∙ sym (cond-false (elsewhere xs y) (Some n) (elsewhere_from xs (n + 1) ys) (h 0 y (omega arith) (omega arith)))

  all_told : (ys : List Item) (r : Option ℕ) → MatchOption r (AllWithin InPlace ys 0 (length ys)) (λ i. (i < length ys) × HoldsAt Displaced ys i × AllWithin InPlace ys 0 i) → r ≡ elsewhere_from xs 0 ys
  all_told ys None h = none_elsewhere 0 ys h
  all_told ys (Some i) h = let e : i ≡ 0 + i = omega arith in ap Some e ∙ one_elsewhere 0 i ys h.0 h.1 h.2

  pub first_told : (ys : List Item) (n : ℕ) (r : Option ℕ) → n ≡ 0
      → MatchOption r (AllWithin InPlace (drop n ys) 0 (length (drop n ys))) (λ i. (i < length (drop n ys)) × HoldsAt Displaced (drop n ys) i × AllWithin InPlace (drop n ys) 0 i) → r ≡ elsewhere_from xs 0 ys
  first_told ys n r z h = all_told (drop n ys) r h ∙ ap (λ m. elsewhere_from xs 0 (drop m ys)) z

-- who arrives

pub capacity_small : (ks : List ValueKind) (caps : List ℕ) (p : ℕ) → Roomy ks caps → p < length ks → get_or caps p 0 ≤ most_entries
capacity_small ks caps p r l = let e = r.even in All-get_or (λ n. n ≤ most_entries) caps p 0 (omega arith) r.small

-- the entries of a part that a group spares, counted among the entries that a store gives
pub spared_each : (h : Group) (xs : List Item) → length (filter (λ (e : Entry ℕ). not (struck h e.dot)) (map entry_of xs)) ≡ length (filter (spared h) xs)
spared_each h [] = refl
spared_each h (x ∷ xs) = go (spared h x) (spared_each h xs)
  where
    rest : List (Entry ℕ)
    rest = filter (λ (e : Entry ℕ). not (struck h e.dot)) (map entry_of xs)

    go : (b : Bool) → length rest ≡ length (filter (spared h) xs) → length (cond b (entry_of x ∷ rest) rest) ≡ length (cond b (x ∷ filter (spared h) xs) (filter (spared h) xs))
    go true e = ap suc e
    go false e = e
