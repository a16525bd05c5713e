-- How many elements pass a test at the front, where a search finds that number.
use Rattle.std.proofs.Common.{◌≡◌, ℕ, zero, suc, ◌<◌, ◌≤◌, Bool, true, false, not, cond, ltb, Some, None, List, [], ◌∷◌, length, take, sym, ap, ◌∙◌, inl, inr, arith}
use Rattle.std.specs.List.{prefix_len, position_or_len}
use Rattle.std.specs.List.Sorted.{IsPartitionedBy, IsPartitionPoint}
use Rattle.std.proofs.lemmas.List.Sums.{prefix_len_is}
use Rattle.std.proofs.lemmas.Bool.{cases_Bool, cases_lt, both_ways, cond-true, cond-false, lt-ltb, le-ltb}
use Rattle.std.proofs.lemmas.List.{length-take-le}
use Rattle.std.proofs.lemmas.Option.{cond_some}
use Rattle.std.proofs.ByRecursion.{All-get_or}
use Rattle.causal.specs.declared.dots.Dot.{Dot}
use Rattle.stores.specs.declared.entries.Entry.{Entry}
use Rattle.stores.proofs.Stays.{some_none}
use Rattle.tables.specs.Rows.{lead, Falls, other, first_at}

module _ {X : Type 0} (f : X → Bool) where
  pub lead-prefix_len : (xs : List X) → prefix_len f xs ≡ lead f xs
  lead-prefix_len [] = omega arith
  lead-prefix_len (x ∷ xs) = let i = lead-prefix_len xs in grind arith

  pub partitioned : (xs : List X) → Falls f xs → IsPartitionedBy f xs
  partitioned [] a i j d le lt h = absurd (omega arith)
  partitioned (x ∷ xs) a zero zero d le lt h = h
  partitioned (x ∷ xs) a zero (suc j) d le lt h = elim (cases_Bool (f x))
      [ inl t ↦ t | inr n ↦ absurd (both_ways _ (All-get_or (λ z. f z ≡ false) xs j d (omega arith) (a.0 n)) h) ]
  partitioned (x ∷ xs) a (suc i) zero d le lt h = absurd (omega arith)
  partitioned (x ∷ xs) a (suc i) (suc j) d le lt h = partitioned xs a.1 i j d (omega arith) (omega arith) h

  pub lead_point : (xs : List X) (i : ℕ) → i ≤ length xs → IsPartitionPoint (λ x. f x ≡ true) (λ x. f x ≡ false) xs i → i ≡ lead f xs
  lead_point [] i h p = omega arith
  lead_point (x ∷ xs) i h p =
      sym (prefix_len_is f (x ∷ xs) i x h (λ k l. p.0 k x (omega arith) l) (λ l. p.1 i x (omega arith) l)) ∙ lead-prefix_len (x ∷ xs)

-- the first place that passes, by the count of those before it
pub first_is : {X : Type 0} (test : X → Bool) (xs : List X)
    → cond (ltb (position_or_len test xs) (length xs)) (Some (position_or_len test xs)) None ≡ cond (ltb (lead (λ x. not (test x)) xs) (length xs)) (Some (lead (λ x. not (test x)) xs)) None
first_is test xs = ap (λ n. cond (ltb n (length xs)) (Some n) None) (lead-prefix_len (λ x. not (test x)) xs)

module _ {V : Type 0} (d : Dot) (es : List (Entry V)) where
  pub some_first : (n : ℕ) → Some n ≡ first_at d es → (n ≡ lead (other d) es) × (n < length es)
  some_first n h = elim (cases_lt (lead (other d) es) (length es)) [
    | inl l ↦ let s = cond_some (ltb (lead (other d) es) (length es)) (lead (other d) es) n (sym h) in (sym s.1, omega (arith, s.1, l))
    | inr l ↦ absurd (some_none (h ∙ cond-false (ltb (lead (other d) es) (length es)) (Some (lead (other d) es)) None (le-ltb (lead (other d) es) (length es) l)))
  ]

  pub none_first : None ≡ first_at d es → length es ≤ lead (other d) es
  none_first h = elim (cases_lt (lead (other d) es) (length es)) [
    | inl l ↦ absurd (some_none (sym (h ∙ cond-true (ltb (lead (other d) es) (length es)) (Some (lead (other d) es)) None (lt-ltb (lead (other d) es) (length es) l))))
    | inr l ↦ l
  ]

-- the same where the rows in use are the first len
module _ {V : Type 0} (d : Dot) (rows : List (Entry V)) (len : ℕ) (within : len ≤ length rows) where
  pub some_used : (n : ℕ) → Some n ≡ first_at d (take len rows) → (n ≡ lead (other d) (take len rows)) × (n < len)
  some_used n h =
      let s = some_first d (take len rows) n h in
      let l = s.1 in
      (s.0, omega (arith, length-take-le len rows within))

  pub none_used : None ≡ first_at d (take len rows) → len ≤ lead (other d) (take len rows)
  none_used h =
      let l = none_first d (take len rows) h in
      omega (arith, length-take-le len rows within)
