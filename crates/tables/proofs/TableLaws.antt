-- What the calls of a table come to.
use Rattle.std.proofs.Common.{◌≡◌, ℕ, suc, ◌≤◌, not, eqb, List, [], ◌∷◌, length, take, Some, filter, Option, sym, refl, ap, ◌∙◌, subst, inl, inr}
use Rattle.std.specs.List.{slice_get}
use Rattle.std.specs.Option.{option_map}
use Rattle.std.proofs.lemmas.Bool.{cases_Bool, cond-true, cond-false, ne_eqb}
use Rattle.std.proofs.lemmas.List.{length-map, length-take-le}
use Rattle.causal.specs.declared.dots.Dot.{Dot}
use Rattle.kinds.specs.Kinds.{ValueKind}
use Rattle.stores.specs.declared.entries.Entry.{Entry}
use Rattle.stores.specs.Items.{Item, item_of, item_at, in_part, count_part, entry_at, find, has_dot}
use Rattle.tables.specs.Rows.{items, lead, usable}
use Rattle.stores.specs.Sound.{Orderly}
use Rattle.stores.proofs.Held.{lacks}

pub find_is : (d : Dot) (xs : List Item) → slice_get xs (lead (lacks d) xs) ≡ find d xs
find_is d [] = refl
find_is d (x ∷ xs) = elim (cases_Bool (has_dot d x)) [
  | inl t ↦ ap (slice_get (x ∷ xs)) (cond-false (lacks d x) (suc (lead (lacks d) xs)) 0 (ap not t)) ∙ sym (cond-true (has_dot d x) (Some x) (find d xs) t)
  | inr f ↦ ap (slice_get (x ∷ xs)) (cond-true (lacks d x) (suc (lead (lacks d) xs)) 0 (ap not f)) ∙ find_is d xs ∙ sym (cond-false (has_dot d x) (Some x) (find d xs) f)
]

module _ {V : Type 0} (coded : V → ℕ) where
  pub all_in_part : (es : List (Entry V)) → filter (in_part 0) (items coded es) ≡ items coded es
  all_in_part [] = refl
  all_in_part (e ∷ es) = ap (λ ys. item_of coded 0 e ∷ ys) (all_in_part es)

  pub none_in_part : (p : ℕ) → (p ≡ 0 → ⊥) → (es : List (Entry V)) → filter (in_part p) (items coded es) ≡ []
  none_in_part p ne [] = refl
  none_in_part p ne (e ∷ es) =
      cond-false (eqb 0 p) (item_of coded 0 e ∷ filter (in_part p) (items coded es)) (filter (in_part p) (items coded es)) (ne_eqb 0 p (λ z. ne (sym z)))
      ∙ none_in_part p ne es

  pub count_used : (rows : List (Entry V)) (len : ℕ) → len ≤ length rows → count_part 0 (items coded (take len rows)) ≡ len
  count_used rows len h = ap length (all_in_part (take len rows)) ∙ length-map (take len rows) (item_of coded 0) ∙ length-take-le len rows h

module _ {V : Type 0} (coded : V → ℕ) (es : List (Entry V)) (part position : ℕ) where
  pub entry_here : part ≡ 0 → (r : Option (Entry ℕ)) → option_map (item_at 0) r ≡ slice_get (items coded es) position → option_map (item_at part) r ≡ entry_at part position (items coded es)
  entry_here p r e =
      ap (λ q. option_map (item_at q) r) p ∙ e ∙ ap (λ ys. slice_get ys position) (sym (all_in_part coded es)) ∙ ap (λ q. entry_at q position (items coded es)) (sym p)

-- orderly at one length of rows, and so at the same length and list
pub rows_orderly : (k : ValueKind) (m n : ℕ) → n ≡ m → (xs ys : List Item) → ys ≡ xs → Orderly (k ∷ []) (usable m ∷ []) xs → Orderly (k ∷ []) (usable n ∷ []) ys
rows_orderly k m n e xs ys f h = subst (λ j. Orderly (k ∷ []) (usable j ∷ []) ys) (sym e) (subst (Orderly (k ∷ []) (usable m ∷ [])) (sym f) h)
