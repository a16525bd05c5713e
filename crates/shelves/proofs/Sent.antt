-- A list of which the first `count` are in use, after the one at `at` was put behind the others.
use Rattle.std.proofs.Common.{◌≡◌, ℕ, zero, suc, ◌+◌, ◌-◌, ◌<◌, ◌≤◌, cond, eqb, ltb, List, [], ◌∷◌, ◌++◌, length, get_or, take, drop, sym, refl, ap, ◌∙◌, ⊎_elim, arith}
use Rattle.std.specs.List.{remove}
use Rattle.std.proofs.lemmas.List.{append_assoc, take_at, drop_at, take-take, length-take-le, length-append, length-drop, get_or-take, get_or-drop, drop-drop}
use Rattle.std.proofs.lemmas.List.Edits.{get_or-remove_below, get_or-remove_above}
use Rattle.std.proofs.lemmas.Slice.{between_is, drop-put_mid}
use Rattle.std.proofs.lemmas.Bool.{cases_lt, cases_eq}
use Rattle.std.proofs.lemmas.Bool.Decides.{nat_tests}
use borrow.Rule.Slice.PartMut.{put_mid, mid_of, same_len_mid}

-- where the one came from that stands at i
abbrev pub source : ℕ → ℕ → ℕ → ℕ
source at last i = cond (ltb i at) i (cond (ltb i last) (i + 1) (cond (eqb i last) at i))

source_below : (at last i : ℕ) → i < at → i ≡ source at last i
source_below at last i h = grind (arith, nat_tests)

source_above : (at last i : ℕ) → at ≤ i → i < last → i + 1 ≡ source at last i
source_above at last i h k = grind (arith, nat_tests)

source_last : (at last i : ℕ) → at ≤ last → i ≡ last → at ≡ source at last i
source_last at last i h e = grind (arith, nat_tests)

source_past : (at last i : ℕ) → at ≤ last → last < i → i ≡ source at last i
source_past at last i h k = grind (arith, nat_tests)

front : {X : Type 0} (n : ℕ) (zs rest : List X) (d : X) → 0 < n → 0 < length zs → get_or (take 1 (take n zs) ++ rest) 0 d ≡ get_or zs 0 d
front zero zs rest d h k = absurd (omega arith)
front (suc n) [] rest d h k = absurd (omega arith)
front (suc n) (z ∷ zs) rest d h k = refl

module _ {X : Type 0} (xs ys : List X) (at count : ℕ) (h : at < count) (k : count ≤ length xs) (e : ys ≡ drop 1 (mid_of at (count - at) xs) ++ take 1 (mid_of at (count - at) xs)) where
  length_front : length (take at xs ++ drop 1 (mid_of at (count - at) xs)) ≡ count - 1
  length_front =
      let a = length-append (take at xs) (drop 1 (mid_of at (count - at) xs)) in
      let b = length-take-le at xs (omega arith) in
      let c = length-drop 1 (mid_of at (count - at) xs) in
      let d = length-drop at xs in
      let f = length-take-le (count - at) (drop at xs) (omega arith) in
      omega arith

  parts : put_mid at (count - at) xs ys ≡ (take at xs ++ drop 1 (mid_of at (count - at) xs)) ++ (take 1 (mid_of at (count - at) xs) ++ drop (count - at) (drop at xs))
  parts =
      ap (λ zs. take at xs ++ (zs ++ drop (count - at) (drop at xs))) e
      ∙ ap (λ zs. take at xs ++ zs) (append_assoc (drop 1 (mid_of at (count - at) xs)) (take 1 (mid_of at (count - at) xs)) (drop (count - at) (drop at xs)))
      ∙ sym (append_assoc (take at xs) (drop 1 (mid_of at (count - at) xs)) (take 1 (mid_of at (count - at) xs) ++ drop (count - at) (drop at xs)))

  -- the first ones are then those without it
  pub sent_removed : take (count - 1) (put_mid at (count - at) xs ys) ≡ remove (take count xs) at
  sent_removed =
      let next : at + 1 ≡ suc at = omega arith in
      ap (take (count - 1)) parts
      ∙ take_at (take at xs ++ drop 1 (mid_of at (count - at) xs)) (take 1 (mid_of at (count - at) xs) ++ drop (count - at) (drop at xs)) (count - 1) length_front
      ∙ ap (λ zs. zs ++ drop 1 (mid_of at (count - at) xs)) (sym (take-take at count xs (omega arith)))
      ∙ ap (λ zs. take at (take count xs) ++ drop 1 zs) (between_is xs at count)
      ∙ ap (λ zs. take at (take count xs) ++ zs) (drop-drop 1 at (take count xs) ∙ ap (λ n. drop n (take count xs)) next)

  -- and it stands after them
  sent_last : (d : X) → get_or (put_mid at (count - at) xs ys) (count - 1) d ≡ get_or xs at d
  sent_last d =
      let z : count - 1 + 0 ≡ count - 1 = omega arith in
      let y : at + 0 ≡ at = omega arith in
      let m = length-drop at xs in
      ap (λ n. get_or (put_mid at (count - at) xs ys) n d) (sym z)
      ∙ sym (get_or-drop (count - 1) (put_mid at (count - at) xs ys) 0 d)
      ∙ ap (λ zs. get_or zs 0 d) (ap (drop (count - 1)) parts ∙ drop_at (take at xs ++ drop 1 (mid_of at (count - at) xs)) (take 1 (mid_of at (count - at) xs) ++ drop (count - at) (drop at xs)) (count - 1) length_front)
      ∙ front (count - at) (drop at xs) (drop (count - at) (drop at xs)) d (omega arith) (omega arith)
      ∙ get_or-drop at xs 0 d
      ∙ ap (λ n. get_or xs n d) y

  length_moved : length ys ≡ count - at
  length_moved =
      let a = length-append (drop 1 (mid_of at (count - at) xs)) (take 1 (mid_of at (count - at) xs)) in
      let c = length-drop 1 (mid_of at (count - at) xs) in
      let d = length-drop at xs in
      let f = length-take-le (count - at) (drop at xs) (omega arith) in
      let b = length-take-le 1 (mid_of at (count - at) xs) (omega arith) in
      let g = ap length e in
      omega arith

  pub sent_length : length (put_mid at (count - at) xs ys) ≡ length xs
  sent_length =
      let d = length-drop at xs in
      let f = length-take-le (count - at) (drop at xs) (omega arith) in
      same_len_mid at (count - at) xs ys (let n = length_moved in omega arith)

  -- those that are not in use stay
  sent_rest : drop count (put_mid at (count - at) xs ys) ≡ drop count xs
  sent_rest = drop-put_mid at (count - at) xs ys count (omega arith) (omega arith) length_moved

  pub sent_get : (i : ℕ) (d : X) → get_or (put_mid at (count - at) xs ys) i d ≡ get_or xs (source at (count - 1) i) d
  sent_get i d =
      let zs = put_mid at (count - at) xs ys in
      let n = length-take-le count xs k in
      ⊎_elim
      (λ before. sym (get_or-take (count - 1) zs i d before) ∙ ap (λ l. get_or l i d) sent_removed ∙ ⊎_elim
      (λ below. get_or-remove_below (take count xs) at d i below (omega arith) ∙ get_or-take count xs i d (omega arith) ∙ ap (λ j. get_or xs j d) (source_below at (count - 1) i below))
      (λ above. get_or-remove_above (take count xs) at d i above (omega arith) ∙ get_or-take count xs (i + 1) d (omega arith) ∙ ap (λ j. get_or xs j d) (source_above at (count - 1) i above before))
      (cases_lt i at))
      (λ behind. ⊎_elim
      (λ last. ap (λ j. get_or zs j d) last ∙ sent_last d ∙ ap (λ j. get_or xs j d) (source_last at (count - 1) i (omega arith) last))
      (λ past.
      let z : i ≡ count + (i - count) = omega arith in
      ap (λ j. get_or zs j d) z ∙ sym (get_or-drop count zs (i - count) d) ∙ ap (λ l. get_or l (i - count) d) sent_rest
      ∙ get_or-drop count xs (i - count) d ∙ ap (λ j. get_or xs j d) (sym z ∙ source_past at (count - 1) i (omega arith) (omega arith)))
      (cases_eq i (count - 1)))
      (cases_lt i (count - 1))
