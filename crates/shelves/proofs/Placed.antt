-- The parcel at a position, of those that lie one after another.
use Rattle.std.proofs.Common.{◌≡◌, ℕ, ◌+◌, ◌<◌, ◌≤◌, List, map, length, get_or, take, Some, None, sum, sym, ap, ◌∙◌, arith}
use Rattle.std.specs.List.{range_with_len, slice_get}
use Rattle.std.proofs.lemmas.Option.{slice_get_past, slice_get_within, get_or_from_slice_get}
use Rattle.std.proofs.lemmas.List.Sums.{sum_by_more, sum_by-take-le}
use Rattle.shelves.specs.Layout.{pieces}
use Rattle.shelves.proofs.Pieces.{length_pieces, nth_pieces}
use Rattle.shelves.proofs.Stocks.{past_from_get}

pub placed_past : (f : ℕ → ℕ) (xs : List ℕ) (p : ℕ) → length xs ≤ p → slice_get (pieces f 0 xs) p ≡ None
placed_past f xs p h = let n = length_pieces f 0 xs in slice_get_past (pieces f 0 xs) p (omega arith)

pub placed : (f : ℕ → ℕ) (xs : List ℕ) (p : ℕ) → p < length xs → slice_get (pieces f 0 xs) p ≡ Some (map f (range_with_len (sum (take p xs)) (get_or xs p 0)))
placed f xs p h =
    let e : 0 + sum (take p xs) ≡ sum (take p xs) = omega arith in
    nth_pieces f 0 xs p h ∙ ap (λ n. Some (map f (range_with_len n (get_or xs p 0)))) e

-- where it ends is within those in use
pub sum_upto : (xs : List ℕ) (p : ℕ) → p < length xs → sum (take p xs) + get_or xs p 0 ≤ sum xs
sum_upto xs p h =
    let more = sum_by_more (λ x. x) xs p 0 h in
    let l = sum_by-take-le (λ x. x) xs (p + 1) in
    omega arith

-- and as its length is looked up
pub placed_none : (f : ℕ → ℕ) (xs : List ℕ) (p : ℕ) → slice_get xs p ≡ None → None ≡ slice_get (pieces f 0 xs) p
placed_none f xs p e = sym (placed_past f xs p (past_from_get xs p e))

pub placed_some : (f : ℕ → ℕ) (xs : List ℕ) (p l from : ℕ) → slice_get xs p ≡ Some l → from ≡ sum (take p xs) → Some (map f (range_with_len from l)) ≡ slice_get (pieces f 0 xs) p
placed_some f xs p l from e z =
    let h = slice_get_within xs p l e in
    ap (λ k. Some (map f (range_with_len from k))) (sym (get_or_from_slice_get xs p l 0 e)) ∙ ap (λ k. Some (map f (range_with_len k (get_or xs p 0)))) z ∙ sym (placed f xs p h)
