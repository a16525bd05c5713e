-- What is known where nothing stands against a join.
use Rattle.std.proofs.Common.{◌≡◌, ℕ, zero, suc, ◌+◌, ◌<◌, ◌≤◌, Bool, true, false, cond, ltb, List, get_or, Some, None, refl, subst, inl, inr, arith}
use Rattle.std.proofs.lemmas.Bool.{cases_lt, ltb-false}
use Rattle.refusals.specs.declared.Refusal.{Refusal}
use Rattle.stores.specs.Items.{Item, count_part}
use Rattle.groups.specs.Limits.{overfull}

-- where no part is overfull, each of them has room
pub overfull_none : (fault : ℕ → Refusal) (caps : List ℕ) (xs : List Item) (p n : ℕ) → overfull fault caps xs p n ≡ None → (q : ℕ) → p ≤ q → q < p + n → count_part q xs ≤ get_or caps q 0
overfull_none fault caps xs p zero e q l m = absurd (omega arith)
overfull_none fault caps xs p (suc n) e q l m = go (ltb (get_or caps p 0) (count_part p xs)) refl e (overfull_none fault caps xs (suc p) n)
  where
    go : (b : Bool) → ltb (get_or caps p 0) (count_part p xs) ≡ b → cond b (Some (fault p)) (overfull fault caps xs (suc p) n) ≡ None
        → (overfull fault caps xs (suc p) n ≡ None → (r : ℕ) → suc p ≤ r → r < suc p + n → count_part r xs ≤ get_or caps r 0) → count_part q xs ≤ get_or caps q 0
    go true k f next = let z : ◌≡◌ {A = ℕ} 0 1 = cc in absurd (omega arith)
    go false k f next = elim (cases_lt p q) [
      | inl more ↦ next f q (omega arith) (omega arith)
      | inr same ↦ let s : p ≡ q = omega arith in subst (λ r. count_part r xs ≤ get_or caps r 0) s (ltb-false (get_or caps p 0) (count_part p xs) k)
    ]
