-- Dots and places are totally ordered.
use Rattle.std.proofs.Common.{◌≡◌, ℕ, Bool, true, false, ◌&&◌, ◌||◌, eqb, ltb, List, [], ◌∷◌, refl, ap₂, arith}
use Rattle.std.proofs.lemmas.Bool.Decides.{nat_tests}
use Rattle.std.proofs.lemmas.Bool.{false≢true, true≢false, and_parts, eqb-true}
use Rattle.causal.specs.declared.dots.Dot.{Dot}
use Rattle.causal.specs.declared.places.Place.{Place}
use Rattle.causal.specs.Dots.{same_dot, dot_less}
use Rattle.causal.specs.Places.{keys, same_keys, keys_less, same_place, place_less}
use Rattle.causal.specs.Orders.{TotalOrder, OrdersAreTotal}

-- keys

keys_irreflexive : (ks : List ℕ) → keys_less ks ks ≡ false
keys_irreflexive [] = refl
keys_irreflexive (k ∷ ks) = let i = keys_irreflexive ks in grind (arith, nat_tests)

keys_transitive : (ks ls ms : List ℕ) → keys_less ks ls ≡ true → keys_less ls ms ≡ true → keys_less ks ms ≡ true
keys_transitive [] [] ms p q = absurd (false≢true p)
keys_transitive [] (l ∷ ls) [] p q = absurd (false≢true q)
keys_transitive [] (l ∷ ls) (m ∷ ms) p q = refl
keys_transitive (k ∷ ks) [] ms p q = absurd (false≢true p)
keys_transitive (k ∷ ks) (l ∷ ls) [] p q = absurd (false≢true q)
keys_transitive (k ∷ ks) (l ∷ ls) (m ∷ ms) p q = let i = keys_transitive ks ls ms in grind (arith, nat_tests)

level : (k l : ℕ) (b c : Bool) → (ltb k l || (eqb k l && b)) ≡ false → (ltb l k || (eqb l k && c)) ≡ false → (k ≡ l) × (b ≡ false) × (c ≡ false)
level k l b c p q = (grind (arith, nat_tests), grind (arith, nat_tests), grind (arith, nat_tests))

keys_connected : (ks ls : List ℕ) → keys_less ks ls ≡ false → keys_less ls ks ≡ false → ks ≡ ls
keys_connected [] [] p q = refl
keys_connected [] (l ∷ ls) p q = absurd (true≢false p)
keys_connected (k ∷ ks) [] p q = absurd (true≢false q)
keys_connected (k ∷ ks) (l ∷ ls) p q =
    let h = level k l (keys_less ks ls) (keys_less ls ks) p q in
    ap₂ (λ x xs. x ∷ xs) h.0 (keys_connected ks ls h.1 h.2)

keys_same_self : (ks : List ℕ) → same_keys ks ks ≡ true
keys_same_self [] = refl
keys_same_self (k ∷ ks) = let i = keys_same_self ks in grind (arith, nat_tests)

keys_same_is : (ks ls : List ℕ) → same_keys ks ls ≡ true → ks ≡ ls
keys_same_is [] [] p = refl
keys_same_is [] (l ∷ ls) p = absurd (false≢true p)
keys_same_is (k ∷ ks) [] p = absurd (false≢true p)
keys_same_is (k ∷ ks) (l ∷ ls) p =
    let h = and_parts (eqb k l) (same_keys ks ls) p in
    ap₂ (λ x xs. x ∷ xs) (eqb-true k l h.0) (keys_same_is ks ls h.1)

-- a place is its keys
keys_place : (p q : Place) → keys p ≡ keys q → p ≡ q
keys_place p q e =
    let a : p.first ≡ q.first = cc in
    let b : p.second ≡ q.second = cc in
    let c : p.third ≡ q.third = cc in
    let d : p.fourth ≡ q.fourth = cc in
    λ i. record { first = a i; second = b i; third = c i; fourth = d i }

pub places_total : TotalOrder place_less same_place
unfolding place_less same_place
places_total = record {
  irreflexive = λ p. keys_irreflexive (keys p);
  transitive = λ p q r. keys_transitive (keys p) (keys q) (keys r);
  connected = λ p q h k. keys_place p q (keys_connected (keys p) (keys q) h k);
  same_self = λ p. keys_same_self (keys p);
  same_is = λ p q h. keys_place p q (keys_same_is (keys p) (keys q) h);
}

-- dots

dot_same : (d e : Dot) → d.replica ≡ e.replica → d.counter ≡ e.counter → d ≡ e
dot_same d e p q = λ i. record { replica = p i; counter = q i }

dot_transitive : (d e f : Dot) → dot_less d e ≡ true → dot_less e f ≡ true → dot_less d f ≡ true
unfolding dot_less
dot_transitive d e f p q = grind (arith, nat_tests)

pub dots_total : TotalOrder dot_less same_dot
unfolding dot_less same_dot
dots_total = record {
  irreflexive = λ d. grind (arith, nat_tests);
  transitive = dot_transitive;
  connected = λ d e h k. dot_same d e (grind (arith, nat_tests)) (grind (arith, nat_tests));
  same_self = λ d. grind (arith, nat_tests);
  same_is = λ d e h. dot_same d e (grind (arith, nat_tests)) (grind (arith, nat_tests));
}

pub orders_are_total : OrdersAreTotal
orders_are_total = record { dots = dots_total; places = places_total }
