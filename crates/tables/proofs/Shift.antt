-- A row put in or taken out by moving those after it.
use Rattle.std.proofs.Common.{◌≡◌, ℕ, suc, ◌+◌, ◌-◌, ◌<◌, ◌≤◌, List, ◌∷◌, ◌++◌, length, take, drop, set, sym, ap, ap₂, ◌∙◌, arith, length-drop}
use Rattle.std.specs.List.{insert, remove, copy_within}
use Rattle.std.proofs.Math.Seq.{take-add}
use Rattle.std.proofs.lemmas.List.{take-take, drop-take, drop-drop, take-set, drop-set, take-append-le, drop_at, length-take-le}
use Rattle.std.proofs.lemmas.List.Edits.{take-paste, length-paste}

module _ {X : Type 0} where
  -- the rows from `at` on moved up by one, and a row put in at `at`
  pub take_moved_up : (xs : List X) (len at : ℕ) (y : X) → at ≤ len → len < length xs → take (len + 1) (set (copy_within xs at len (at + 1)) at y) ≡ insert (take len xs) at y
  take_moved_up xs len at y h l =
      let n = len - at in
      let zs = copy_within xs at len (at + 1) in
      let few : n ≤ length (drop at xs) = omega (arith, length-drop at xs) in
      let front : take ((at + 1) + n) zs ≡ take (at + 1) xs ++ take n (drop at xs) = take-paste xs (at + 1) (drop at xs) n (omega arith) few in
      let size : length (take (at + 1) xs) ≡ at + 1 = length-take-le (at + 1) xs (omega arith) in
      let below : take at zs ≡ take at xs =
      sym (take-take at ((at + 1) + n) zs (omega arith)) ∙ ap (take at) front ∙ take-append-le at (take (at + 1) xs) (take n (drop at xs)) (omega arith) ∙ take-take at (at + 1) xs (omega arith) in
      let above : take n (drop (at + 1) zs) ≡ take n (drop at xs) =
      sym (drop-take (at + 1) n zs) ∙ ap (drop (at + 1)) front ∙ drop_at (take (at + 1) xs) (take n (drop at xs)) (at + 1) size in
      let whole : length zs ≡ length xs = length-paste xs (at + 1) (drop at xs) n (omega arith) few in
      let there : at < length zs = omega arith in
      let e : at + suc n ≡ len + 1 = omega arith in
      let e' : at + n ≡ len = omega arith in
      ap (λ k. take k (set zs at y)) (sym e) ∙ take-add at (suc n) (set zs at y)
      ∙ ap₂ (λ xs ys. xs ++ ys) (take-set zs at y ∙ below) (ap (take (suc n)) (drop-set zs at y there) ∙ ap (λ ws. y ∷ ws) above)
      ∙ sym (ap₂ (λ xs ys. xs ++ (y ∷ ys)) (take-take at len xs h) (ap (λ k. drop at (take k xs)) (sym e') ∙ drop-take at n xs))

  -- the rows after `at` moved down by one
  pub take_moved_down : (xs : List X) (len at : ℕ) → at < len → len ≤ length xs → take (len - 1) (copy_within xs (at + 1) len at) ≡ remove (take len xs) at
  take_moved_down xs len at h l =
      let n = len - (at + 1) in
      let e : at + n ≡ len - 1 = omega arith in
      let e' : (at + 1) + n ≡ len = omega arith in
      let up : at + 1 ≡ suc at = omega arith in
      ap (λ k. take k (copy_within xs (at + 1) len at)) (sym e)
      ∙ take-paste xs at (drop (at + 1) xs) n (omega arith) (omega (arith, length-drop (at + 1) xs))
      ∙ sym (ap₂ (λ xs ys. xs ++ ys) (take-take at len xs (omega arith)) (ap (λ k. drop k (take len xs)) (sym up) ∙ ap (λ k. drop (at + 1) (take k xs)) (sym e') ∙ drop-take (at + 1) n xs))

  -- what is the same from m on is the same from n on
  pub drop_further : (xs ys : List X) (m n : ℕ) → m ≤ n → drop m xs ≡ drop m ys → drop n xs ≡ drop n ys
  drop_further xs ys m n h e =
      let s : m + (n - m) ≡ n = omega arith in
      ap (λ j. drop j xs) (sym s) ∙ sym (drop-drop (n - m) m xs) ∙ ap (drop (n - m)) e ∙ drop-drop (n - m) m ys ∙ ap (λ j. drop j ys) s
