-- The three value kinds of the site book, with their laws.
use Rattle.std.specs.Prelude.{◌≡◌, ℕ, zero, suc, ◌/◌, ◌%◌, ◌<◌, ◌≤◌, min, ◌==◌, bit_or, nat_le, refl}
use Rattle.std.proofs.Common.{sym, ap, ◌∙◌, arith, div-add-mod', mod-lt}
use Rattle.std.proofs.Math.Arith.{bin_ind}
use Rattle.std.proofs.lemmas.Nat.{or_comm, or_lt, or_shr, or_mod}
use Rattle.std.specs.Int.Bits.{or_self}
use Rattle.std.proofs.lemmas.Bool.{leb-true, le-leb, eqb-true}
use Rattle.kinds.specs.Kinds.{ValueKind}

abbrev pub most_amps : ℕ
most_amps = 4000

-- a feeder's limit in whole amps: the smaller of two stands
abbrev pub limit_kind : ValueKind
limit_kind = record {
  fits = λ n. nat_le n most_amps;
  join = min;
  narrow = λ a p. omega (arith, leb-true a 4000 p);
  closed = λ a b p q. le-leb (min a b) 4000 (omega (arith, leb-true a 4000 p));
  associates = λ a b c p q r. omega arith;
  commutes = λ a b p q. omega arith;
  idempotent = λ a p. omega arith;
}

digit_assoc : (x y z : ℕ) → x < 2 → y < 2 → z < 2 → bit_or (bit_or x y) z ≡ bit_or x (bit_or y z)
digit_assoc zero y z hx hy hz = refl
digit_assoc (suc zero) zero z hx hy hz = refl
digit_assoc (suc zero) (suc zero) zero hx hy hz = refl
digit_assoc (suc zero) (suc zero) (suc zero) hx hy hz = refl
digit_assoc (suc zero) (suc zero) (suc (suc z)) hx hy hz = absurd (omega arith)
digit_assoc (suc zero) (suc (suc y)) z hx hy hz = absurd (omega arith)
digit_assoc (suc (suc x)) y z hx hy hz = absurd (omega arith)

by_digits : (a b : ℕ) → a / 2 ≡ b / 2 → a % 2 ≡ b % 2 → a ≡ b
by_digits a b hi lo = omega (arith, div-add-mod' a 2, div-add-mod' b 2)

pub or_assoc : (a b c : ℕ) → bit_or (bit_or a b) c ≡ bit_or a (bit_or b c)
or_assoc =
    bin_ind (λ (n : ℕ). (b c : ℕ) → bit_or (bit_or n b) c ≡ bit_or n (bit_or b c)) (λ b c. refl)
    (λ n ih b c. by_digits _ _
    (or_shr (bit_or n b) c 1 ∙ ap (λ (x : ℕ). bit_or x (c / 2)) (or_shr n b 1) ∙ ih (b / 2) (c / 2)
    ∙ sym (or_shr n (bit_or b c) 1 ∙ ap (bit_or (n / 2)) (or_shr b c 1)))
    (or_mod (bit_or n b) c 1 ∙ ap (λ (x : ℕ). bit_or x (c % 2)) (or_mod n b 1)
    ∙ digit_assoc (n % 2) (b % 2) (c % 2) (mod-lt n (omega arith)) (mod-lt b (omega arith)) (mod-lt c (omega arith))
    ∙ sym (or_mod n (bit_or b c) 1 ∙ ap (bit_or (n % 2)) (or_mod b c 1))))

pub or_fits : (a b : ℕ) → a ≤ 7 → b ≤ 7 → bit_or a b ≤ 7
or_fits a b p q = omega (arith, or_lt 3 a b (omega arith) (omega arith))

-- the phases of a socket, bits 0, 1 and 2 for L1, L2 and L3: all that either of two has
abbrev pub lines_kind : ValueKind
lines_kind = record {
  fits = λ n. nat_le n 7;
  join = bit_or;
  narrow = λ a p. omega (arith, leb-true a 7 p);
  closed = λ a b p q. le-leb (bit_or a b) 7 (or_fits a b (leb-true a 7 p) (leb-true b 7 q));
  associates = λ a b c p q r. or_assoc a b c;
  commutes = λ a b p q. or_comm a b;
  idempotent = λ a p. or_self a;
}

-- a flag, which is there or not and says nothing more: the code 0 alone
abbrev pub mark_kind : ValueKind
mark_kind = record {
  fits = λ n. (n == 0);
  join = λ a b. 0;
  narrow = λ a p. omega (arith, eqb-true a 0 p);
  closed = λ a b p q. refl;
  associates = λ a b c p q r. refl;
  commutes = λ a b p q. refl;
  idempotent = λ a p. sym (eqb-true a 0 p);
}
