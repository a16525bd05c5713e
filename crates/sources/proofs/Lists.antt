-- Filters that keep the same or all, and the element at an index of two lists end to end.
use Rattle.std.proofs.Common.{◌≡◌, ℕ, zero, suc, ◌-◌, ◌<◌, ◌≤◌, Bool, true, false, cond, List, [], ◌∷◌, ◌++◌, length, get_or, is_some, Some, None, Option, filter, sym, refl, ap, ◌∙◌, subst, ap₂, arith}
use Rattle.std.specs.List.{slice_get, AllByRecursion, AllWithin, HoldsAt, range_with_len}
use Rattle.std.specs.Option.{MatchOption, unwrap_or}
use Rattle.std.proofs.lemmas.List.FromFn.{length-range_with_len, get_or-range_with_len}
use Rattle.records.specs.declared.record.Record.{Record}
use Rattle.sources.specs.Layouts.{entry_part}
use Rattle.sources.specs.Readings.{LeadsWith}
use Rattle.std.proofs.lemmas.Bool.{cond-true}

pub kept_same : {X : Type 0} (f g : X → Bool) (xs : List X) → AllByRecursion (λ x. f x ≡ g x) xs → filter f xs ≡ filter g xs
kept_same f g [] h = refl
kept_same f g (x ∷ xs) h = ap₂ (λ b zs. cond b (x ∷ zs) zs) h.0 (kept_same f g xs h.1)

pub kept_all : {X : Type 0} (f : X → Bool) (xs : List X) → AllByRecursion (λ x. f x ≡ true) xs → filter f xs ≡ xs
kept_all f [] h = refl
kept_all f (x ∷ xs) h = cond-true (f x) (x ∷ filter f xs) (filter f xs) h.0 ∙ ap (λ zs. x ∷ zs) (kept_all f xs h.1)

pub nth_front : {X : Type 0} (us vs : List X) (i : ℕ) → i < length us → slice_get (us ++ vs) i ≡ slice_get us i
nth_front [] vs i l = absurd (omega arith)
nth_front (u ∷ us) vs zero l = refl
nth_front (u ∷ us) vs (suc i) l = nth_front us vs i (omega arith)

pub nth_rest : {X : Type 0} (us vs : List X) (i : ℕ) → length us ≤ i → slice_get (us ++ vs) i ≡ slice_get vs (i - length us)
nth_rest [] vs i l = let e : i ≡ i - 0 = omega arith in ap (slice_get vs) e
nth_rest (u ∷ us) vs zero l = absurd (omega arith)
nth_rest (u ∷ us) vs (suc i) l = let e : i - length us ≡ suc i - suc (length us) = omega arith in nth_rest us vs i (omega arith) ∙ ap (slice_get vs) e

-- the first of the records below n that is no entry, or n
module _ (f : ℕ → Option Record) (n : ℕ) where
  abbrev Other : ℕ → Type 0
  Other i = is_some (entry_part (f i)) ≡ false

  abbrev Entry : ℕ → Type 0
  Entry i = is_some (entry_part (f i)) ≡ true

  at : (P : ℕ → Type 0) (i : ℕ) → i < n → P (get_or (range_with_len 0 n) i 0) → P i
  at P i l h = let e : get_or (range_with_len 0 n) i 0 ≡ i = get_or-range_with_len 0 n i 0 l ∙ (omega arith) in subst P e h

  pub leads_told : (r : Option ℕ) (m : ℕ) → m ≡ unwrap_or r n
      → MatchOption r (AllWithin Entry (range_with_len 0 n) 0 (length (range_with_len 0 n))) (λ i. (i < length (range_with_len 0 n)) × HoldsAt Other (range_with_len 0 n) i × AllWithin Entry (range_with_len 0 n) 0 i)
      → LeadsWith f n m
  leads_told None m e h =
      let l = length-range_with_len 0 n in
      record { entries = λ i b. at Entry i (omega arith) (h i 0 (omega arith) (omega arith)); then_other = λ b. absurd (omega arith) }
  leads_told (Some i) m e h =
      let l = length-range_with_len 0 n in
      let b = h.0 in
      record { entries = λ k a. at Entry k (omega arith) (h.2 k 0 (omega arith) (omega arith)); then_other = λ a. at Other m a (subst (λ j. Other (get_or (range_with_len 0 n) j 0)) (sym e) (h.1 0)) }
