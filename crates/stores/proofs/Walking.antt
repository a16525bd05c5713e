-- The steps of a walk over a store's entries.
use Rattle.std.proofs.Common.{◌≡◌, ℕ, zero, suc, ◌+◌, ◌*◌, ◌<◌, ◌≤◌, List, [], ◌∷◌, map, length, get_or, drop, Some, None, filter, refl, sym, ap, ◌∙◌, inl, inr, add-one, arith}
use Rattle.std.specs.List.{slice_get, fold, sum_by, range_with_len}
use Rattle.std.proofs.lemmas.List.{drop_more, get_or_past}
use Rattle.std.proofs.ByRecursion.{All-get_or}
use Rattle.std.proofs.lemmas.Option.{slice_get-get_or, slice_get_within, none-some}
use Rattle.std.proofs.lemmas.Bool.{cases_Bool, cond-true, cond-false, cases_lt}
use Rattle.kinds.specs.Kinds.{ValueKind}
use Rattle.stores.specs.Items.{Item, in_part, entry_of, count_part}
use Rattle.stores.specs.Sound.{Roomy, Orderly, most_entries}
use Rattle.stores.specs.Laws.{count_parts}
use Rattle.stores.specs.Walks.{put_each, lies_under}
use Rattle.causal.specs.declared.places.Place.{Place}
use Rattle.causal.specs.Places.{is_under}
use Rattle.stores.specs.Puts.{put_after}
use Rattle.stores.specs.declared.entries.Entry.{Entry}

pub drop_nth : (ys : List Item) (i : ℕ) (y : Item) → Some y ≡ slice_get ys i → drop i ys ≡ y ∷ drop (i + 1) ys
drop_nth ys i y e =
    let h = slice_get_within ys i y (sym e) in
    let s : Some y ≡ Some (get_or ys i y) = e ∙ slice_get-get_or ys i y h in
    let q : y ≡ get_or ys i y = cc in
    drop_more ys i y h ∙ ap (λ z. z ∷ drop (i + 1) ys) (sym q)

pub drop_past : (ys : List Item) (i : ℕ) → None ≡ slice_get ys i → drop i ys ≡ []
drop_past [] zero e = refl
drop_past [] (suc i) e = refl
drop_past (y ∷ ys) zero e = absurd (none-some y e)
drop_past (y ∷ ys) (suc i) e = drop_past ys i e

-- those under a place, as entries and as items
pub under_each : (place : Place) (ys : List Item) → length (filter (λ (e : Entry ℕ). is_under e.place place) (map entry_of ys)) ≡ length (filter (lies_under place) ys)
unfolding lies_under
under_each place [] = refl
under_each place (y ∷ ys) = elim (cases_Bool (is_under y.place place)) [
  | inl t ↦ ap length (cond-true (is_under y.place place) _ _ t) ∙ ap suc (under_each place ys) ∙ sym (ap length (cond-true (is_under y.place place) (y ∷ filter (lies_under place) ys) (filter (lies_under place) ys) t))
  | inr f ↦ ap length (cond-false (is_under y.place place) _ _ f) ∙ under_each place ys ∙ sym (ap length (cond-false (is_under y.place place) (y ∷ filter (lies_under place) ys) (filter (lies_under place) ys) f))
]

-- one entry after another, put into a part
abbrev pub put_all : List ValueKind → List ℕ → ℕ → List Item → List (Entry ℕ) → List Item
put_all ks caps p xs [] = xs
put_all ks caps p xs (e ∷ es) = put_all ks caps p (put_after ks caps xs p e) es

pub put_all_each : (ks : List ValueKind) (caps : List ℕ) (p : ℕ) (xs ys : List Item) → put_all ks caps p xs (map entry_of ys) ≡ put_each ks caps p xs ys
put_all_each ks caps p xs [] = refl
put_all_each ks caps p xs (y ∷ ys) = put_all_each ks caps p (put_after ks caps xs p (entry_of y)) ys

-- counts stay small

pub count_small : (ks : List ValueKind) (caps : List ℕ) (xs : List Item) (p : ℕ) → Roomy ks caps → Orderly ks caps xs → count_part p xs ≤ most_entries
count_small ks caps xs p r h =
    let w = h.within p in
    elim (cases_lt p (length caps)) [
      | inl l ↦ let s = All-get_or (λ n. n ≤ most_entries) caps p 0 l r.small in omega arith
      | inr g ↦ let s = get_or_past caps p 0 g in omega arith
    ]

pub within_part : (ks : List ValueKind) (caps : List ℕ) (xs : List Item) (p i : ℕ) (y : Item) → Roomy ks caps → Orderly ks caps xs → Some y ≡ slice_get (filter (in_part p) xs) i → i < most_entries
within_part ks caps xs p i y r h e = let n = count_small ks caps xs p r h in let w = slice_get_within (filter (in_part p) xs) i y (sym e) in omega arith

pub counts_small : (ks : List ValueKind) (caps : List ℕ) (xs : List Item) (n : ℕ) → Roomy ks caps → Orderly ks caps xs → count_parts n xs ≤ n * most_entries
counts_small ks caps xs zero r h = omega arith
counts_small ks caps xs (suc n) r h = let i = counts_small ks caps xs n r h in let s = count_small ks caps xs n r h in omega arith

pub counts_more : (n : ℕ) (xs : List Item) → count_parts (n + 1) xs ≡ count_parts n xs + count_part n xs
counts_more n xs = ap (λ m. count_parts m xs) (add-one n)

-- the counts of parts, one after another, added to those of the parts before them
counts_from : (m n : ℕ) (xs : List Item) → fold (λ a p. a + count_part p xs) (count_parts m xs) (range_with_len m n) ≡ count_parts (m + n) xs
counts_from m zero xs = ap (λ j. count_parts j xs) (let j : m ≡ m + 0 = omega arith in j)
counts_from m (suc n) xs =
    ap (λ a. fold (λ a p. a + count_part p xs) a (range_with_len (m + 1) n)) (sym (counts_more m xs))
    ∙ counts_from (m + 1) n xs
    ∙ ap (λ j. count_parts j xs) (let j : (m + 1) + n ≡ m + suc n = omega arith in j)

pub counts_summed : (n : ℕ) (xs : List Item) → sum_by (λ p. count_part p xs) (range_with_len 0 n) ≡ count_parts n xs
counts_summed n xs = counts_from 0 n xs ∙ ap (λ j. count_parts j xs) (let j : 0 + n ≡ n = omega arith in j)
