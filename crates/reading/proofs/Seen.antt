-- Bits that are set and tested, and dots that have come.
use Rattle.std.proofs.Common.{◌≡◌, ℕ, zero, suc, ◌*◌, ◌/◌, ◌%◌, ◌^◌, ◌<◌, true, false, eqb, ◌⊎◌, List, [], ◌∷◌, ◌++◌, length, get_or, set, sym, refl, ap, ◌∙◌, ap₂, inl, inr, arith, get_or-set_other, get_or-set_same}
use native.Mathlib.Nat.{div_self}
use lib.Bits.{bit_and, bit_or}
use Rattle.std.proofs.lemmas.Nat.{and_mask, or_shr, or_mod, or_comm, pow_pos, one_shl}
use Rattle.std.proofs.ByRecursion.{All-weaker, All-append}
use Rattle.std.proofs.lemmas.Bool.{cases_Bool, cases_eq, both_ways, eq-eqb, eqb-true, or_from}
use Rattle.causal.specs.declared.dots.Dot.{Dot}
use Rattle.causal.specs.Dots.{same_dot}
use Rattle.stores.proofs.ItemOrder.{dot_equal}
use Rattle.reading.specs.Reading.{among}
use Rattle.reading.specs.Seen.{bit_of, is_set, AllSet}

-- one bit of a number

low : (n : ℕ) → (n % 2 ≡ 0) ⊎ (n % 2 ≡ 1)
low n = go (n % 2) (omega arith)
  where
    go : (m : ℕ) → m < 2 → (m ≡ 0) ⊎ (m ≡ 1)
    go zero h = inl refl
    go (suc zero) h = inr refl
    go (suc (suc m)) h = absurd (omega arith)

-- the lowest bit of an `or` is set where that of one side is
or_low : (a b : ℕ) → a % 2 ≡ 1 → bit_or a b % 2 ≡ 1
or_low a b h = or_mod a b 1 ∙ elim (low b) [ inl z ↦ ap₂ bit_or h z | inr o ↦ ap₂ bit_or h o ]

or_keeps : (a b k : ℕ) → a / 2 ^ k % 2 ≡ 1 → bit_or a b / 2 ^ k % 2 ≡ 1
or_keeps a b k h = ap (λ n. n % 2) (or_shr a b k) ∙ or_low (a / 2 ^ k) (b / 2 ^ k) h

power_bit : (k : ℕ) → 2 ^ k / 2 ^ k % 2 ≡ 1
power_bit k = ap (λ n. n % 2) (div_self (pow_pos k))

or_sets : (a k : ℕ) → bit_or a (2 ^ k) / 2 ^ k % 2 ≡ 1
or_sets a k = ap (λ n. n / 2 ^ k % 2) (or_comm a (2 ^ k)) ∙ or_keeps (2 ^ k) a k (power_bit k)

-- the test of the code
pub tested : (bytes : List ℕ) (bit : ℕ) → eqb (bit_and (get_or bytes (bit / 8) 0 / 2 ^ (bit % 8)) 1) 1 ≡ is_set bytes bit
unfolding is_set
tested bytes bit = ap (λ n. eqb n 1) (and_mask (get_or bytes (bit / 8) 0 / 2 ^ (bit % 8)) 1)

-- the write of the code
module _ (bytes : List ℕ) (bit : ℕ) (within : bit / 8 < length bytes) where
  written : get_or (set bytes (bit / 8) (bit_or (get_or bytes (bit / 8) 0) (1 * 2 ^ (bit % 8) % 256))) (bit / 8) 0 ≡ bit_or (get_or bytes (bit / 8) 0) (2 ^ (bit % 8))
  written = get_or-set_same bytes (bit / 8) _ 0 within ∙ ap (bit_or (get_or bytes (bit / 8) 0)) (one_shl (bit % 8) 8 (omega arith))

  pub note_sets : is_set (set bytes (bit / 8) (bit_or (get_or bytes (bit / 8) 0) (1 * 2 ^ (bit % 8) % 256))) bit ≡ true
  unfolding is_set
  note_sets = eq-eqb _ 1 (ap (λ n. n / 2 ^ (bit % 8) % 2) written ∙ or_sets (get_or bytes (bit / 8) 0) (bit % 8))

  pub note_keeps : (other : ℕ) → is_set bytes other ≡ true → is_set (set bytes (bit / 8) (bit_or (get_or bytes (bit / 8) 0) (1 * 2 ^ (bit % 8) % 256))) other ≡ true
  unfolding is_set
  note_keeps other h =
      let old = eqb-true (get_or bytes (other / 8) 0 / 2 ^ (other % 8) % 2) 1 h in
      elim (cases_eq (other / 8) (bit / 8)) [
        | inl e ↦ eq-eqb _ 1 (ap (λ n. n / 2 ^ (other % 8) % 2) (ap (λ i. get_or (set bytes (bit / 8) (bit_or (get_or bytes (bit / 8) 0) (1 * 2 ^ (bit % 8) % 256))) i 0) e ∙ written)
            ∙ or_keeps (get_or bytes (bit / 8) 0) (2 ^ (bit % 8)) (other % 8) (ap (λ i. get_or bytes i 0 / 2 ^ (other % 8) % 2) (sym e) ∙ old))
        | inr n ↦ eq-eqb _ 1 (ap (λ n. n / 2 ^ (other % 8) % 2) (get_or-set_other bytes (bit / 8) (other / 8) _ 0 n) ∙ old)
      ]

-- dots whose bits are set

-- a dot whose bit is not set is not among them
pub not_come : (bytes : List ℕ) (d : Dot) (ds : List Dot) → AllSet bytes ds → is_set bytes (bit_of d) ≡ false → among d ds ≡ false
not_come bytes d [] h f = refl
not_come bytes d (e ∷ es) h f =
    or_from (same_dot e d) (among d es)
    (elim (cases_Bool (same_dot e d)) [ inl t ↦ absurd (both_ways (is_set bytes (bit_of d)) f (ap (λ c. is_set bytes (bit_of c)) (sym (dot_equal e d t)) ∙ h.0)) | inr n ↦ n ])
    (not_come bytes d es h.1 f)

-- one dot more
pub all_come : (ds : List Dot) (d : Dot) (old new : List ℕ) → AllSet old ds → ((bit : ℕ) → is_set old bit ≡ true → is_set new bit ≡ true) → is_set new (bit_of d) ≡ true → AllSet new (ds ++ (d ∷ []))
all_come ds d old new h kept here =
    All-append (λ d. is_set new (bit_of d) ≡ true) ds (d ∷ [])
    (All-weaker (λ d. is_set old (bit_of d) ≡ true) (λ d. is_set new (bit_of d) ≡ true) (λ d. kept (bit_of d)) ds h) (here, tt)
