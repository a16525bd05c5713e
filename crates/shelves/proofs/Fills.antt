-- Loops that fill memory from the left.
use Rattle.std.proofs.Common.{◌≡◌, ℕ, suc, ◌+◌, ◌-◌, ◌<◌, List, [], ◌∷◌, ◌++◌, map, length, get_or, drop, set, sym, refl, ap, ◌∙◌, arith}
use Rattle.std.specs.List.{range_with_len}
use Rattle.std.proofs.lemmas.List.{drop_more, set_at, append_assoc}
use Rattle.shelves.specs.Layout.{turn, byte, slid}
use Rattle.std.proofs.lemmas.List.FromFn.{map-range_with_len_more, length-map-range_with_len}

pub fill_by_one : (f : ℕ → ℕ) (from i b : ℕ) (m : List ℕ) → i < length m → b ≡ f (from + i)
    → set (map f (range_with_len from i) ++ drop i m) i b ≡ map f (range_with_len from (i + 1)) ++ drop (i + 1) m
fill_by_one f from i b m h e =
    ap (λ zs. set (map f (range_with_len from i) ++ zs) i b) (drop_more m i b h)
    ∙ set_at (map f (range_with_len from i)) (get_or m i b) (drop (i + 1) m) b i (length-map-range_with_len f from i)
    ∙ ap (λ z. map f (range_with_len from i) ++ z ∷ drop (i + 1) m) e
    ∙ sym (append_assoc (map f (range_with_len from i)) (f (from + i) ∷ []) (drop (i + 1) m))
    ∙ ap (λ zs. zs ++ drop (i + 1) m) (sym (map-range_with_len_more f from i (from + i) refl))

-- one byte more moved down
pub slid_more : (bytes : List ℕ) (room start at gap i count b : ℕ) → i < count → b ≡ byte bytes room start (at + i + gap)
    → slid (set bytes (turn room start (at + i)) b) room start (at + (i + 1)) gap (count - (i + 1)) ≡ slid bytes room start (at + i) gap (count - i)
slid_more bytes room start at gap i count b h e =
    let next : at + (i + 1) ≡ at + i + 1 = omega arith in
    let left : suc (count - (i + 1)) ≡ count - i = omega arith in
    ap (λ k. slid (set bytes (turn room start (at + i)) b) room start k gap (count - (i + 1))) next
    ∙ ap (λ c. slid (set bytes (turn room start (at + i)) c) room start (at + i + 1) gap (count - (i + 1))) e
    ∙ ap (slid bytes room start (at + i) gap) left
