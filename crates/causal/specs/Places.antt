-- Places: four keys. The keys before the first 0 name a path, as feeder 12, socket 1; the rest are 0.
use Rattle.std.specs.Prelude.{ℕ, suc, Bool, true, false, cond, ◌&&◌, ◌||◌, List, [], ◌∷◌, take, drop, ◌==◌, nat_lt}
use Rattle.std.specs.declared.cmp.Ordering.{Ordering}
use Rattle.causal.specs.declared.places.Place.{Place}
use Rattle.causal.specs.Dots.{ranking}

abbrev pub keys : Place → List ℕ
keys p = p.first ∷ p.second ∷ p.third ∷ p.fourth ∷ []

-- how many keys stand before the first 0
abbrev pub leading : List ℕ → ℕ
leading [] = 0
leading (k ∷ ks) = cond (k == 0) 0 (suc (leading ks))

abbrev pub all_zero : List ℕ → Bool
all_zero [] = true
all_zero (k ∷ ks) = k == 0 && all_zero ks

abbrev pub depth_of : Place → ℕ
depth_of p = leading (keys p)

-- after a key 0 only 0 follows
abbrev pub is_place : Place → Bool
is_place p = all_zero (drop (depth_of p) (keys p))

abbrev pub same_keys : List ℕ → List ℕ → Bool
same_keys [] [] = true
same_keys [] (l ∷ ls) = false
same_keys (k ∷ ks) [] = false
same_keys (k ∷ ks) (l ∷ ls) = k == l && same_keys ks ls

unfoldable pub same_place : Place → Place → Bool
same_place p q = same_keys (keys p) (keys q)

-- p's first keys are q's, to q's depth
abbrev pub is_under : Place → Place → Bool
is_under p q = same_keys (take (depth_of q) (keys p)) (take (depth_of q) (keys q))

-- the first key that differs decides
abbrev pub keys_less : List ℕ → List ℕ → Bool
keys_less [] [] = false
keys_less [] (l ∷ ls) = true
keys_less (k ∷ ks) [] = false
keys_less (k ∷ ks) (l ∷ ls) = nat_lt k l || (k == l && keys_less ks ls)

unfoldable pub place_less : Place → Place → Bool
place_less p q = keys_less (keys p) (keys q)

abbrev pub place_order : Place → Place → Ordering
place_order p q = ranking (place_less p q) (place_less q p)
