-- Fields and bytes are each told by the other.
use Rattle.std.proofs.Common.{◌≡◌, ℕ, zero, suc, ◌+◌, ◌*◌, ◌%◌, ◌^◌, ◌<◌, List, [], ◌∷◌, map, length, get_or, sym, refl, ◌∙◌, arith}
use Rattle.std.specs.List.{range_with_len, AllByRecursion}
use Rattle.std.proofs.lemmas.List.FromFn.{fill_by_all}
use Rattle.records.specs.declared.fields.Fields.{Fields}
use Rattle.records.specs.Fields.{two, fields_of, byte, spelled}

-- numbers by their bytes

two_back : (n : ℕ) → n < 65536 → byte 256 n * 256 + n % 256 ≡ n
two_back n h = omega arith

eight_back : (n : ℕ) → n < 2 ^ 64
    → (((byte 72057594037927936 n * 256 + byte 281474976710656 n) * 65536 + (byte 1099511627776 n * 256 + byte 4294967296 n)) * 65536 + (byte 16777216 n * 256 + byte 65536 n)) * 65536 + (byte 256 n * 256 + n % 256) ≡ n
eight_back n h = omega arith

-- bytes of a number that is made of bytes

high_byte : (a b : ℕ) → a < 256 → b < 256 → byte 256 (a * 256 + b) ≡ a
high_byte a b p q = omega arith

low_byte : (a b : ℕ) → b < 256 → (a * 256 + b) % 256 ≡ b
low_byte a b q = omega arith

abbrev made : ℕ → ℕ → ℕ → ℕ → ℕ
made a b c d = ((a * 65536 + b) * 65536 + c) * 65536 + d

made_0 : (a b c d : ℕ) → a < 65536 → b < 65536 → c < 65536 → d < 65536 → byte 72057594037927936 (made a b c d) ≡ byte 256 a
made_0 a b c d p q r s = omega arith

made_1 : (a b c d : ℕ) → a < 65536 → b < 65536 → c < 65536 → d < 65536 → byte 281474976710656 (made a b c d) ≡ a % 256
made_1 a b c d p q r s = omega arith

made_2 : (a b c d : ℕ) → a < 65536 → b < 65536 → c < 65536 → d < 65536 → byte 1099511627776 (made a b c d) ≡ byte 256 b
made_2 a b c d p q r s = omega arith

made_3 : (a b c d : ℕ) → a < 65536 → b < 65536 → c < 65536 → d < 65536 → byte 4294967296 (made a b c d) ≡ b % 256
made_3 a b c d p q r s = omega arith

made_4 : (a b c d : ℕ) → a < 65536 → b < 65536 → c < 65536 → d < 65536 → byte 16777216 (made a b c d) ≡ byte 256 c
made_4 a b c d p q r s = omega arith

made_5 : (a b c d : ℕ) → a < 65536 → b < 65536 → c < 65536 → d < 65536 → byte 65536 (made a b c d) ≡ c % 256
made_5 a b c d p q r s = omega arith

made_6 : (a b c d : ℕ) → a < 65536 → b < 65536 → c < 65536 → d < 65536 → byte 256 (made a b c d) ≡ byte 256 d
made_6 a b c d p q r s = omega arith

made_7 : (a b c d : ℕ) → d < 65536 → made a b c d % 256 ≡ d % 256
made_7 a b c d s = omega arith

-- every field fits its bytes
pub record Narrow (f : Fields) : Type 0 where
  pub tag : f.tag < 256
  pub part : f.part < 256
  pub replica : f.replica < 256
  pub spare : f.spare < 256
  pub low : f.low < 65536
  pub high : f.high < 65536
  pub first : f.place.first < 65536
  pub second : f.place.second < 65536
  pub third : f.place.third < 65536
  pub fourth : f.place.fourth < 65536
  pub code : f.code < 2 ^ 64

pub fields_back : (f : Fields) → Narrow f → fields_of (spelled f) ≡ f
fields_back f h = λ i. record {
  tag = f.tag;
  part = f.part;
  replica = f.replica;
  spare = f.spare;
  low = two_back f.low h.low i;
  high = two_back f.high h.high i;
  place = record {
    first = two_back f.place.first h.first i;
    second = two_back f.place.second h.second i;
    third = two_back f.place.third h.third i;
    fourth = two_back f.place.fourth h.fourth i;
  };
  code = eight_back f.code h.code i;
}

under : (bs : List ℕ) → AllByRecursion (λ b. b < 256) bs → (k : ℕ) → get_or bs k 0 < 256
under [] h k = omega arith
under (b ∷ bs) h zero = h.0
under (b ∷ bs) h (suc k) = under bs h.1 k

module _ (bs : List ℕ) (u : (k : ℕ) → get_or bs k 0 < 256) where
  two_under : (k : ℕ) → two k bs < 65536
  two_under k = let a = u k in let b = u (k + 1) in omega arith

  hi : (k : ℕ) → byte 256 (two k bs) ≡ get_or bs k 0
  hi k = high_byte (get_or bs k 0) (get_or bs (k + 1) 0) (u k) (u (k + 1))

  lo : (k : ℕ) → two k bs % 256 ≡ get_or bs (k + 1) 0
  lo k = low_byte (get_or bs k 0) (get_or bs (k + 1) 0) (u (k + 1))

  each : spelled (fields_of bs) ≡ map (λ k. get_or bs k 0) (range_with_len 0 24)
  each =
      let a = two 16 bs in
      let b = two 18 bs in
      let c = two 20 bs in
      let d = two 22 bs in
      let p = two_under 16 in
      let q = two_under 18 in
      let r = two_under 20 in
      let s = two_under 22 in
      let c0 = made_0 a b c d p q r s ∙ hi 16 in
      let c1 = made_1 a b c d p q r s ∙ lo 16 in
      let c2 = made_2 a b c d p q r s ∙ hi 18 in
      let c3 = made_3 a b c d p q r s ∙ lo 18 in
      let c4 = made_4 a b c d p q r s ∙ hi 20 in
      let c5 = made_5 a b c d p q r s ∙ lo 20 in
      let c6 = made_6 a b c d p q r s ∙ hi 22 in
      let c7 = made_7 a b c d s ∙ lo 22 in
      λ i. get_or bs 0 0 ∷ get_or bs 1 0 ∷ get_or bs 2 0 ∷ get_or bs 3 0 ∷ hi 4 i ∷ lo 4 i ∷ hi 6 i ∷ lo 6 i
      ∷ hi 8 i ∷ lo 8 i ∷ hi 10 i ∷ lo 10 i ∷ hi 12 i ∷ lo 12 i ∷ hi 14 i ∷ lo 14 i
      ∷ c0 i ∷ c1 i ∷ c2 i ∷ c3 i ∷ c4 i ∷ c5 i ∷ c6 i ∷ c7 i ∷ []

pub spelled_back : (bs : List ℕ) → length bs ≡ 24 → AllByRecursion (λ b. b < 256) bs → spelled (fields_of bs) ≡ bs
spelled_back bs l h = each bs (under bs h) ∙ sym (fill_by_all (λ k. get_or bs k 0) bs 24 0 l (λ k p. refl))

pub bytes_narrow : (bs : List ℕ) → AllByRecursion (λ b. b < 256) bs → Narrow (fields_of bs)
bytes_narrow bs h =
    let u = under bs h in
    let t = two_under bs u in
    record { tag = u 0; part = u 1; replica = u 2; spare = u 3; low = t 4; high = t 6; first = t 8; second = t 10; third = t 12; fourth = t 14; code = below (two 16 bs) (two 18 bs) (two 20 bs) (two 22 bs) (t 16) (t 18) (t 20) (t 22) }
  where
    below : (a b c d : ℕ) → a < 65536 → b < 65536 → c < 65536 → d < 65536 → made a b c d < 2 ^ 64
    below a b c d p q r s = omega arith
