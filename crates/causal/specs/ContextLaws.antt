-- What canonical lists of runs and their unions satisfy.
use Rattle.std.specs.Prelude.{◌≡◌, ℕ, ◌+◌, max, true, false, ◌||◌, List}
use Rattle.causal.specs.declared.dots.Dot.{Dot}
use Rattle.causal.specs.declared.runs.Run.{Run}
use Rattle.causal.specs.Runs.{has, union, canonical, highest, dot}

-- one set of dots has one canonical list, and the union of two lists has the union of their sets
pub record ContextsAreSets : Type 0 where
  pub members : (xs ys : List Run) (d : Dot) → canonical xs ≡ true → canonical ys ≡ true → has (union xs ys) d ≡ (has xs d || has ys d)
  pub stays_canonical : (xs ys : List Run) → canonical xs ≡ true → canonical ys ≡ true → canonical (union xs ys) ≡ true
  pub same_dots : (xs ys : List Run) → canonical xs ≡ true → canonical ys ≡ true → ((d : Dot) → has xs d ≡ has ys d) → xs ≡ ys
  pub associative : (xs ys zs : List Run) → canonical xs ≡ true → canonical ys ≡ true → canonical zs ≡ true → union (union xs ys) zs ≡ union xs (union ys zs)
  pub commutative : (xs ys : List Run) → canonical xs ≡ true → canonical ys ≡ true → union xs ys ≡ union ys xs
  pub idempotent : (xs : List Run) → canonical xs ≡ true → union xs xs ≡ xs
  pub highest_of_union : (n : ℕ) (xs ys : List Run) → canonical xs ≡ true → canonical ys ≡ true → highest n (union xs ys) ≡ max (highest n xs) (highest n ys)
  pub next_is_new : (n : ℕ) (rs : List Run) → has rs (dot n (highest n rs + 1)) ≡ false
