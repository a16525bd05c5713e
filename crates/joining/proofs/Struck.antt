-- What a group strikes, and what the strikes leave.
use Rattle.std.proofs.Common.{◌≡◌, ℕ, zero, suc, ◌+◌, ◌-◌, ◌<◌, ◌≤◌, Bool, true, false, cond, not, ◌&&◌, List, [], ◌∷◌, ◌++◌, length, take, drop, Some, None, filter, sym, refl, ap, ◌∙◌, subst, ap₂, arith}
use Rattle.std.specs.List.{slice_get, AllByRecursion}
use Rattle.std.proofs.lemmas.List.Elements.{filter-append}
use Rattle.std.proofs.ByRecursion.{all_kept_by, All-weaker}
use Rattle.std.proofs.lemmas.List.{take-append-drop, drop_all, length-take}
use Rattle.std.proofs.lemmas.Bool.{cond-true, cond-false, cond_both, eq-eqb}
use Rattle.causal.specs.declared.dots.Dot.{Dot}
use Rattle.causal.specs.Runs.{has}
use Rattle.stores.specs.Items.{Item, has_dot, stands, in_part, strike_items}
use Rattle.stores.proofs.ItemOrder.{dot_equal, dot_itself}
use Rattle.stores.proofs.Held.{lacks}
use Rattle.stores.proofs.Walking.{drop_nth, drop_past}
use Rattle.groups.specs.Groups.{Group}
use Rattle.sources.proofs.Lists.{kept_same, kept_all}
use Rattle.joining.specs.Questions.{struck}
use Rattle.joining.specs.Strikes.{spared, remaining, Unstruck}

pub struck_known : (h : Group) (d : Dot) (b : Bool) → has h.runs d ≡ true → b ≡ stands d h.items → not b ≡ struck h d
unfolding struck
struck_known h d b k e = ap not e ∙ sym (ap (λ a. a && not (stands d h.items)) k)

pub struck_unknown : (h : Group) (d : Dot) → has h.runs d ≡ false → false ≡ struck h d
unfolding struck
struck_unknown h d k = sym (ap (λ a. a && not (stands d h.items)) k)

-- filters

two_tests : (f g : Item → Bool) (x : Item) (xs : List Item) (a b : Bool) → g x ≡ a → f x ≡ b → filter f (filter g xs) ≡ filter (λ y. g y && f y) xs
    → filter f (cond a (x ∷ filter g xs) (filter g xs)) ≡ cond (a && b) (x ∷ filter (λ y. g y && f y) xs) (filter (λ y. g y && f y) xs)
two_tests f g x xs true b e k i = ap₂ (λ c zs. cond c (x ∷ zs) zs) k i
two_tests f g x xs false b e k i = i

pub kept_kept : (f g : Item → Bool) (xs : List Item) → filter f (filter g xs) ≡ filter (λ x. g x && f x) xs
kept_kept f g [] = refl
kept_kept f g (x ∷ xs) = two_tests f g x xs (g x) (f x) refl refl (kept_kept f g xs)

pub each : (P : Item → Type 0) (xs : List Item) → ((x : Item) → P x) → AllByRecursion P xs
each P [] h = tt
each P (x ∷ xs) h = (h x, each P xs h)

-- striking one that the group strikes
pub strike_one : (h : Group) (d : Dot) (xs : List Item) → struck h d ≡ true → remaining h (strike_items d xs) ≡ remaining h xs
strike_one h d xs s = kept_kept (spared h) (lacks d) xs ∙ kept_same (λ x. lacks d x && spared h x) (spared h) xs (each (λ x. (lacks d x && spared h x) ≡ spared h x) xs (λ x. go x (has_dot d x) refl))
  where
    go : (x : Item) (a : Bool) → has_dot d x ≡ a → (not a && spared h x) ≡ spared h x
    go x true e = sym (ap not (ap (struck h) (dot_equal x.dot d e) ∙ s))
    go x false e = refl

and_turned : (a b : Bool) → (a && b) ≡ (b && a)
and_turned a b = grind arith

-- filters in either order
pub kept_turned : (f g : Item → Bool) (xs : List Item) → filter f (filter g xs) ≡ filter g (filter f xs)
kept_turned f g xs = kept_kept f g xs ∙ kept_same (λ x. g x && f x) (λ x. f x && g x) xs (each (λ x. (g x && f x) ≡ (f x && g x)) xs (λ x. and_turned (g x) (f x))) ∙ sym (kept_kept g f xs)

abbrev pub Free : Group → List Item → Type 0
Free h xs = AllByRecursion (λ x. struck h x.dot ≡ false) xs

pub unstruck_strike : (h : Group) (p : ℕ) (d : Dot) (xs : List Item) → Unstruck h p xs → Unstruck h p (strike_items d xs)
unstruck_strike h p d xs u = subst (Free h) (sym (kept_turned (in_part p) (lacks d) xs)) (all_kept_by (lacks d) (λ x. struck h x.dot ≡ false) (filter (in_part p) xs) u)

kept_short : (f : Item → Bool) (xs : List Item) → length (filter f xs) ≤ length xs
kept_short f [] = omega arith
kept_short f (x ∷ xs) = let i = kept_short f xs in cond_both (f x) (x ∷ filter f xs) (filter f xs) (λ ys. length ys ≤ suc (length xs)) (λ _. omega arith) (λ _. omega arith)

-- a walk from the end: what is past the position is free, and the item at it is struck or free

free_drop : (h : Group) (n : ℕ) (xs : List Item) → Free h xs → Free h (drop n xs)
free_drop h zero xs f = f
free_drop h (suc n) [] f = tt
free_drop h (suc n) (x ∷ xs) f = free_drop h n xs f.1

drop_tail : (h : Group) (i : ℕ) (us vs : List Item) → length us ≤ i → Free h vs → Free h (drop i (us ++ vs))
drop_tail h i [] vs l f = free_drop h i vs f
drop_tail h zero (u ∷ us) vs l f = absurd (omega arith)
drop_tail h (suc i) (u ∷ us) vs l f = drop_tail h i us vs (omega arith) f

pub strike_tail : (h : Group) (d : Dot) (zs : List Item) (i : ℕ) (z : Item) → Some z ≡ slice_get zs i → has_dot d z ≡ true → Free h (drop (i + 1) zs) → Free h (drop i (strike_items d zs))
strike_tail h d zs i z e t f =
    let us = strike_items d (take i zs) in
    let vs = strike_items d (drop (i + 1) zs) in
    let front : take i zs ++ drop i zs ≡ zs = take-append-drop i zs in
    let here : drop i zs ≡ z ∷ drop (i + 1) zs = drop_nth zs i z e in
    let gone : strike_items d (drop i zs) ≡ vs = ap (strike_items d) here ∙ cond-false (lacks d z) (z ∷ vs) vs (ap not t) in
    let whole : us ++ vs ≡ strike_items d zs = ap (λ ws. us ++ ws) (sym gone) ∙ sym (filter-append (lacks d) (take i zs) (drop i zs)) ∙ ap (strike_items d) front in
    let s = kept_short (lacks d) (take i zs) in
    let m = length-take i zs in
    subst (λ ws. Free h (drop i ws)) whole (drop_tail h i us vs (omega arith) (all_kept_by (lacks d) (λ x. struck h x.dot ≡ false) (drop (i + 1) zs) f))

pub free_more : (h : Group) (zs : List Item) (i : ℕ) (z : Item) → Some z ≡ slice_get zs i → struck h z.dot ≡ false → Free h (drop (i + 1) zs) → Free h (drop i zs)
free_more h zs i z e s f = subst (Free h) (sym (drop_nth zs i z e)) (s, f)

pub free_past : (h : Group) (zs : List Item) (i : ℕ) → None ≡ slice_get zs i → Free h (drop i zs)
free_past h zs i e = subst (Free h) (sym (drop_past zs i e)) tt

pub free_end : (h : Group) (zs : List Item) (i : ℕ) → length zs ≤ i → Free h (drop i zs)
free_end h zs i g = subst (Free h) (sym (drop_all i zs g)) tt

-- one turn of the walk, in a part of a list
module _ (h : Group) (p : ℕ) (xs : List Item) (i : ℕ) (z : Item) (e : Some z ≡ slice_get (filter (in_part p) xs) i) (f : Free h (drop (i + 1) (filter (in_part p) xs))) where
  pub turn_struck : Free h (drop i (filter (in_part p) (strike_items z.dot xs)))
  turn_struck = subst (λ ws. Free h (drop i ws)) (sym (kept_turned (in_part p) (lacks z.dot) xs))
      (strike_tail h z.dot (filter (in_part p) xs) i z e (dot_itself z.dot) f)

  pub turn_spared : struck h z.dot ≡ false → Free h (drop i (filter (in_part p) xs))
  turn_spared s = free_more h (filter (in_part p) xs) i z e s f

-- once no part has an item that is struck, nothing is left to strike
pub all_free : (h : Group) (n : ℕ) (xs : List Item) → AllByRecursion (λ x. x.part < n) xs → ((q : ℕ) → q < n → Unstruck h q xs) → Free h xs
all_free h n [] a u = tt
all_free h n (x ∷ xs) a u = (
  (subst (λ zs. Free h zs) (cond-true (in_part x.part x) (x ∷ filter (in_part x.part) xs) (filter (in_part x.part) xs) (eq-eqb x.part x.part refl)) (u x.part a.0)).0,
  all_free h n xs a.1 (λ q l. rest q (in_part q x) refl (u q l)),
)
  where
    rest : (q : ℕ) (b : Bool) → in_part q x ≡ b → Free h (cond b (x ∷ filter (in_part q) xs) (filter (in_part q) xs)) → Free h (filter (in_part q) xs)
    rest q true e v = v.1
    rest q false e v = v

pub remaining_free : (h : Group) (xs : List Item) → Free h xs → remaining h xs ≡ xs
remaining_free h xs f = kept_all (spared h) xs (All-weaker (λ x. struck h x.dot ≡ false) (λ x. spared h x ≡ true) (λ x s. ap not s) xs f)

pub step_down : (h : Group) (zs : List Item) (i : ℕ) → 0 < i → Free h (drop i zs) → Free h (drop (i - 1 + 1) zs)
step_down h zs i l f = let e : i ≡ i - 1 + 1 = omega arith in subst (λ n. Free h (drop n zs)) e f

pub drop_zero : (h : Group) (zs : List Item) (i : ℕ) → i ≤ 0 → Free h (drop i zs) → Free h zs
drop_zero h zs i l f = let e : i ≡ 0 = omega arith in subst (λ n. Free h (drop n zs)) e f
