-- What a ring's calls leave.
use Rattle.std.proofs.Common.{◌≡◌, ℕ, ◌+◌, ◌-◌, ◌*◌, ◌<◌, ◌≤◌, cond, ltb, List, [], ◌∷◌, ◌++◌, map, length, get_or, take, set, sum, sym, ap, ◌∙◌, subst, arith}
use Rattle.std.specs.List.{range_with_len, remove}
use Rattle.std.proofs.lemmas.List.{length-take-le, take_more_set}
use Rattle.std.proofs.lemmas.Bool.{cond-true, cond-false, lt-ltb, le-ltb}
use Rattle.shelves.specs.Layout.{byte, pieces, laid}
use Rattle.shelves.specs.Parcels.{Within, held}
use Rattle.shelves.specs.Rings.{ring_sizes, ring_room, ring_parcels, SoundRing}
use Rattle.shelves.proofs.Pieces.{length_pieces, lengths_of_pieces, pieces_same, pieces_push, pieces_removed}
use Rattle.shelves.proofs.Written.{length_laid, laid_before, laid_there}
use Rattle.shelves.proofs.Placed.{sum_upto}
use Rattle.shelves.proofs.Stocks.{sum_held}

pub ring_count : (bytes : List ℕ) (start : ℕ) (lengths : List ℕ) (count : ℕ) → count ≤ length lengths → length (ring_parcels bytes start lengths count) ≡ count
ring_count bytes start lengths count h = length_pieces (byte bytes (ring_room (length bytes)) start) 0 (take count lengths) ∙ length-take-le count lengths h

-- the bytes that a ring uses
pub ring_sum : (bytes : List ℕ) (start : ℕ) (lengths : List ℕ) (count : ℕ) → SoundRing bytes start lengths count → sum (take count lengths) ≡ 24 * held (ring_parcels bytes start lengths count)
ring_sum bytes start lengths count s =
    ap sum (sym (lengths_of_pieces (byte bytes (ring_room (length bytes)) start) 0 (take count lengths))) ∙ sum_held (ring_parcels bytes start lengths count) s.within.whole

pub ring_fits : (bytes : List ℕ) (start : ℕ) (lengths : List ℕ) (count : ℕ) → SoundRing bytes start lengths count → sum (take count lengths) ≤ ring_room (length bytes)
ring_fits bytes start lengths count s = omega (arith, ring_sum bytes start lengths count s, s.within.held)

-- the parcels after a write past those in use
pub ring_appended : (bytes after : List ℕ) (start : ℕ) (lengths : List ℕ) (count : ℕ) (news : List ℕ) → start ≤ ring_room (length bytes) → count < length lengths
    → sum (take count lengths) + length news ≤ ring_room (length bytes) → after ≡ laid bytes (ring_room (length bytes)) start (sum (take count lengths)) news
    → ring_parcels after start (set lengths count (length news)) (count + 1) ≡ ring_parcels bytes start lengths count ++ news ∷ []
ring_appended bytes after start lengths count news s l h e =
    let room = ring_room (length bytes) in
    let ls = take count lengths in
    let new = laid bytes room start (sum ls) news in
    let n : length after ≡ length bytes = ap length e ∙ length_laid bytes room start (sum ls) news in
    let zero_on : 0 + sum ls ≡ sum ls = omega arith in
    let f = byte bytes room start in
    let g = byte new room start in
    let r : ring_room (length bytes) ≤ length bytes = omega arith in
    ap (λ m. pieces (byte after (ring_room m) start) 0 (take (count + 1) (set lengths count (length news)))) n
    ∙ ap (λ bs. pieces (byte bs room start) 0 (take (count + 1) (set lengths count (length news)))) e
    ∙ ap (pieces g 0) (take_more_set lengths count (length news) l)
    ∙ pieces_push g 0 ls (length news)
    ∙ ap (λ ps. ps ++ map g (range_with_len (0 + sum ls) (length news)) ∷ []) (pieces_same f g 0 ls (λ i _ q. laid_before bytes room start (sum ls) news i s h (omega arith)))
    ∙ ap (λ k. pieces f 0 ls ++ map g (range_with_len k (length news)) ∷ []) zero_on
    ∙ ap (λ p. pieces f 0 ls ++ p ∷ []) (laid_there bytes room start (sum ls) news s h r)

pub sound_by : (bytes after : List ℕ) (start : ℕ) (lengths : List ℕ) (count : ℕ) (ps : List (List ℕ)) → length after ≡ length bytes → start ≤ ring_room (length bytes) → count ≤ length lengths
    → ring_parcels after start lengths count ≡ ps → Within (ring_sizes (length bytes)) ps → SoundRing after start lengths count
sound_by bytes after start lengths count ps n s l e w =
    record {
      begins = subst (λ m. start ≤ ring_room m) (sym n) s;
      listed = l;
      within = subst (λ m. Within (ring_sizes m) (ring_parcels after start lengths count)) (sym n) (subst (λ qs. Within (ring_sizes (length bytes)) qs) (sym e) w);
    }

-- the parcels after the place of one is closed up
pub ring_removed : (bytes after : List ℕ) (start begins : ℕ) (ls : List ℕ) (at : ℕ) → length after ≡ length bytes → at < length ls
    → ((i : ℕ) → i < sum ls - get_or ls at 0
    → byte after (ring_room (length bytes)) begins i ≡ byte bytes (ring_room (length bytes)) start (cond (ltb i (sum (take at ls))) i (i + get_or ls at 0)))
    → pieces (byte after (ring_room (length after)) begins) 0 (remove ls at) ≡ remove (pieces (byte bytes (ring_room (length bytes)) start) 0 ls) at
ring_removed bytes after start begins ls at n h moved =
    let room = ring_room (length bytes) in
    let f = byte bytes room start in
    let g = byte after room begins in
    let u = sum_upto ls at h in
    ap (λ j. pieces (byte after (ring_room j) begins) 0 (remove ls at)) n
    ∙ pieces_removed f g 0 ls at h
    (λ i _ q. moved i (omega arith) ∙ ap f (cond-true _ _ _ (lt-ltb i (sum (take at ls)) (omega arith))))
    (λ i p q. moved i (omega arith) ∙ ap f (cond-false _ _ _ (le-ltb i (sum (take at ls)) (omega arith))))
