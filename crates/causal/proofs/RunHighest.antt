use Rattle.std.proofs.Common.{◌≡◌, ℕ, ◌+◌, ◌<◌, ◌≤◌, max, true, false, ◌||◌, eqb, ◌⊎◌, List, [], ◌∷◌, sym, ◌∙◌, inl, inr, ⊎_elim, arith}
use Rattle.std.proofs.lemmas.Bool.Decides.{nat_tests}
use Rattle.std.proofs.lemmas.Bool.{cond_both, or_cases, or_left, or_right, false≢true, cases_lt, cases_Bool}
use Rattle.causal.specs.declared.runs.Run.{Run}
use Rattle.causal.specs.Runs.{in_run, has, before, hull, union, highest, dot}
use Rattle.causal.proofs.RunFacts.{Canonical}
use Rattle.causal.proofs.RunSets.{has_union, union_canonical}

-- no counter of the replica is higher
pub below_highest : (n : ℕ) (rs : List Run) (c : ℕ) → has rs (dot n c) ≡ true → c ≤ highest n rs
unfolding in_run before hull
below_highest n [] c h = absurd (false≢true h)
below_highest n (r ∷ rs) c h =
    ⊎_elim (λ e. grind (arith, nat_tests)) (λ e. let i = below_highest n rs c e in let j = up in omega arith) (or_cases (in_run r (dot n c)) (has rs (dot n c)) h)
  where
    up : highest n rs ≤ highest n (r ∷ rs)
    up = cond_both (eqb r.replica n) _ _ (λ m. highest n rs ≤ m) (λ e. omega arith) (λ e. omega arith)

-- the highest is there, if it is not 0
pub has_highest : (n : ℕ) (rs : List Run) → Canonical rs → 0 < highest n rs → has rs (dot n (highest n rs)) ≡ true
unfolding in_run before hull
has_highest n [] hc p = absurd (omega arith)
has_highest n (r ∷ rs) hc p = go (cases_Bool (eqb r.replica n)) (cases_lt r.last (highest n rs)) (has_highest n rs hc.2)
  where
    ends : eqb r.replica n ≡ true → in_run r (dot n r.last) ≡ true
    ends e = let s = hc.0 in grind (arith, nat_tests)

    go : (eqb r.replica n ≡ true) ⊎ (eqb r.replica n ≡ false) → (r.last < highest n rs) ⊎ (highest n rs ≤ r.last) → (0 < highest n rs → has rs (dot n (highest n rs)) ≡ true) → has (r ∷ rs) (dot n (highest n (r ∷ rs))) ≡ true
    go (inl e) (inl l) ih = let m : highest n (r ∷ rs) ≡ highest n rs = rw e (omega arith) in rw m (or_right _ _ (ih (omega arith)))
    go (inl e) (inr l) ih = let m : highest n (r ∷ rs) ≡ r.last = rw e (omega arith) in rw m (or_left _ _ (ends e))
    go (inr e) l ih = let m : highest n (r ∷ rs) ≡ highest n rs = rw e in rw m (or_right _ _ (ih (rw m at p)))

-- a fresh dot
pub fresh : (n : ℕ) (rs : List Run) → has rs (dot n (highest n rs + 1)) ≡ false
fresh n rs = ⊎_elim (λ e. absurd (let k = below_highest n rs (highest n rs + 1) e in omega arith)) (λ e. e) (cases_Bool (has rs (dot n (highest n rs + 1))))

-- a highest of a union is the higher one
at_most : (n : ℕ) (xs ys : List Run) → Canonical xs → ((c : ℕ) → has xs (dot n c) ≡ true → has ys (dot n c) ≡ true) → highest n xs ≤ highest n ys
at_most n xs ys hx h =
    ⊎_elim (λ l. below_highest n ys (highest n xs) (h _ (has_highest n xs hx l))) (λ l. omega arith) (cases_lt 0 (highest n xs))

highest_or : (n : ℕ) (xs ys zs : List Run) → Canonical xs → ((c : ℕ) → has xs (dot n c) ≡ (has ys (dot n c) || has zs (dot n c))) → highest n xs ≤ max (highest n ys) (highest n zs)
highest_or n xs ys zs hx h = ⊎_elim (λ l. ⊎_elim (λ e. let k = below_highest n ys (highest n xs) e in omega arith) (λ e. let k = below_highest n zs (highest n xs) e in omega arith) (or_cases (has ys (dot n (highest n xs))) (has zs (dot n (highest n xs))) (sym (h _) ∙ has_highest n xs hx l))) (λ l. omega arith) (cases_lt 0 (highest n xs))

pub highest_union : (n : ℕ) (xs ys : List Run) → Canonical xs → Canonical ys → highest n (union xs ys) ≡ max (highest n xs) (highest n ys)
highest_union n xs ys hx hy =
    let u = λ (c : ℕ). has_union xs ys (dot n c) hx hy in
    let a : highest n (union xs ys) ≤ max (highest n xs) (highest n ys) = highest_or n (union xs ys) xs ys (union_canonical xs ys hx hy) u in
    let b : highest n xs ≤ highest n (union xs ys) = at_most n xs (union xs ys) hx (λ c e. u c ∙ or_left _ _ e) in
    let c : highest n ys ≤ highest n (union xs ys) = at_most n ys (union xs ys) hy (λ c e. u c ∙ or_right _ _ e) in
    omega arith
