-- Parcels that lie one after another.
use Rattle.std.proofs.Common.{◌≡◌, ℕ, zero, suc, ◌+◌, ◌<◌, ◌≤◌, List, [], ◌∷◌, ◌++◌, map, length, get_or, take, Some, sum, refl, ap, ◌∙◌, arith}
use Rattle.std.specs.List.{range_with_len, remove, slice_get}
use Rattle.std.proofs.lemmas.List.Sums.{sum_by-cons}
use Rattle.std.proofs.lemmas.List.FromFn.{length-map-range_with_len}
use Rattle.shelves.specs.Layout.{pieces}

sum_cons : (x : ℕ) (xs : List ℕ) → sum (x ∷ xs) ≡ x + sum xs
sum_cons x xs = sum_by-cons (λ y. y) x xs

-- two functions that agree, the one l places on
pub map_shift : (f g : ℕ → ℕ) (b l n : ℕ) → ((i : ℕ) → b ≤ i → i < b + n → g i ≡ f (i + l)) → map g (range_with_len b n) ≡ map f (range_with_len (b + l) n)
map_shift f g b l zero h = refl
map_shift f g b l (suc n) h =
    let e : b + 1 + l ≡ b + l + 1 = omega arith in
    let first : g b ≡ f (b + l) = h b (omega arith) (omega arith) in
    let rest : map g (range_with_len (b + 1) n) ≡ map f (range_with_len (b + 1 + l) n) = map_shift f g (b + 1) l n (λ i p q. h i (omega arith) (omega arith)) in
    ap (λ x. x ∷ map g (range_with_len (b + 1) n)) first ∙ ap (λ xs. f (b + l) ∷ xs) (rest ∙ ap (λ k. map f (range_with_len k n)) e)

pub map_same : {X : Type 0} (f g : ℕ → X) (b n : ℕ) → ((i : ℕ) → b ≤ i → i < b + n → g i ≡ f i) → map g (range_with_len b n) ≡ map f (range_with_len b n)
map_same f g b zero h = refl
map_same f g b (suc n) h =
    let rest : map g (range_with_len (b + 1) n) ≡ map f (range_with_len (b + 1) n) = map_same f g (b + 1) n (λ i p q. h i (omega arith) (omega arith)) in
    ap (λ x. x ∷ map g (range_with_len (b + 1) n)) (h b (omega arith) (omega arith)) ∙ ap (λ xs. f b ∷ xs) rest

pub pieces_shift : (f g : ℕ → ℕ) (b l : ℕ) (ls : List ℕ) → ((i : ℕ) → b ≤ i → i < b + sum ls → g i ≡ f (i + l)) → pieces g b ls ≡ pieces f (b + l) ls
pieces_shift f g b l [] h = refl
pieces_shift f g b l (x ∷ ls) h =
    let s = sum_cons x ls in
    let e : b + x + l ≡ b + l + x = omega arith in
    let rest : pieces g (b + x) ls ≡ pieces f (b + x + l) ls = pieces_shift f g (b + x) l ls (λ i p q. h i (omega arith) (omega arith)) in
    ap (λ p. p ∷ pieces g (b + x) ls) (map_shift f g b l x (λ i p q. h i p (omega arith)))
    ∙ ap (λ ps. map f (range_with_len (b + l) x) ∷ ps) (rest ∙ ap (λ k. pieces f k ls) e)

pub pieces_same : (f g : ℕ → ℕ) (b : ℕ) (ls : List ℕ) → ((i : ℕ) → b ≤ i → i < b + sum ls → g i ≡ f i) → pieces g b ls ≡ pieces f b ls
pieces_same f g b [] h = refl
pieces_same f g b (x ∷ ls) h =
    let s = sum_cons x ls in
    let rest : pieces g (b + x) ls ≡ pieces f (b + x) ls = pieces_same f g (b + x) ls (λ i p q. h i (omega arith) (omega arith)) in
    ap (λ p. p ∷ pieces g (b + x) ls) (map_same f g b x (λ i p q. h i p (omega arith)))
    ∙ ap (λ ps. map f (range_with_len b x) ∷ ps) rest

-- one more at the end
pub pieces_push : (f : ℕ → ℕ) (b : ℕ) (ls : List ℕ) (l : ℕ) → pieces f b (ls ++ l ∷ []) ≡ pieces f b ls ++ map f (range_with_len (b + sum ls) l) ∷ []
pieces_push f b [] l = let e : b ≡ b + 0 = omega arith in ap (λ k. map f (range_with_len k l) ∷ []) e
pieces_push f b (x ∷ ls) l =
    let s = sum_cons x ls in
    let e : b + x + sum ls ≡ b + sum (x ∷ ls) = omega arith in
    ap (λ ps. map f (range_with_len b x) ∷ ps) (pieces_push f (b + x) ls l ∙ ap (λ k. pieces f (b + x) ls ++ map f (range_with_len k l) ∷ []) e)

-- one taken out, and those after it moved down
pub pieces_removed : (f g : ℕ → ℕ) (b : ℕ) (ls : List ℕ) (p : ℕ) → p < length ls
    → ((i : ℕ) → b ≤ i → i < b + sum (take p ls) → g i ≡ f i)
    → ((i : ℕ) → b + sum (take p ls) ≤ i → i + get_or ls p 0 < b + sum ls → g i ≡ f (i + get_or ls p 0))
    → pieces g b (remove ls p) ≡ remove (pieces f b ls) p
pieces_removed f g b [] p h below above = absurd (omega arith)
pieces_removed f g b (x ∷ ls) zero h below above =
    let s = sum_cons x ls in
    pieces_shift f g b x ls (λ i p q. above i (omega arith) (omega arith))
pieces_removed f g b (x ∷ ls) (suc p) h below above =
    let s = sum_cons x ls in
    let t = sum_cons x (take p ls) in
    let rest : pieces g (b + x) (remove ls p) ≡ remove (pieces f (b + x) ls) p =
    pieces_removed f g (b + x) ls p (omega arith) (λ i u v. below i (omega arith) (omega arith)) (λ i u v. above i (omega arith) (omega arith)) in
    ap (λ q. q ∷ pieces g (b + x) (remove ls p)) (map_same f g b x (λ i u v. below i u (omega arith)))
    ∙ ap (λ ps. map f (range_with_len b x) ∷ ps) rest

pub length_pieces : (f : ℕ → ℕ) (b : ℕ) (ls : List ℕ) → length (pieces f b ls) ≡ length ls
length_pieces f b [] = refl
length_pieces f b (x ∷ ls) = ap suc (length_pieces f (b + x) ls)

pub lengths_of_pieces : (f : ℕ → ℕ) (b : ℕ) (ls : List ℕ) → map length (pieces f b ls) ≡ ls
lengths_of_pieces f b [] = refl
lengths_of_pieces f b (x ∷ ls) = ap (λ y. y ∷ map length (pieces f (b + x) ls)) (length-map-range_with_len f b x) ∙ ap (λ ys. x ∷ ys) (lengths_of_pieces f (b + x) ls)

pub nth_pieces : (f : ℕ → ℕ) (b : ℕ) (ls : List ℕ) (p : ℕ) → p < length ls → slice_get (pieces f b ls) p ≡ Some (map f (range_with_len (b + sum (take p ls)) (get_or ls p 0)))
nth_pieces f b [] p h = absurd (omega arith)
nth_pieces f b (x ∷ ls) zero h = let e : b ≡ b + 0 = omega arith in ap (λ k. Some (map f (range_with_len k x))) e
nth_pieces f b (x ∷ ls) (suc p) h =
    let t = sum_cons x (take p ls) in
    let e : b + x + sum (take p ls) ≡ b + sum (x ∷ take p ls) = omega arith in
    nth_pieces f (b + x) ls p (omega arith) ∙ ap (λ k. Some (map f (range_with_len k (get_or ls p 0)))) e
