-- A walk by index over a list of items, as the list of what it gives.
use Rattle.std.proofs.Common.{◌≡◌, ℕ, ◌+◌, ◌≤◌, List, [], ◌∷◌, length, drop, Some, None, Option, Bor, sym, ap, ◌∙◌, subst}
use Rattle.std.specs.List.{slice_get}
use Rattle.std.specs.Iterator.{AlwaysYields}
use Rattle.std.proofs.lemmas.Iterator.{YieldsList}
use Rattle.std.proofs.lemmas.List.{drop_all}
use Rattle.groups.specs.Groups.{Group}
use Rattle.reading.specs.Reading.{item_in}
use Rattle.sources.specs.Walks.{GivesEntry}
use Rattle.stores.specs.Items.{Item}
use Rattle.stores.proofs.Lookups.{some_same}
use Rattle.stores.proofs.Stays.{some_none}
use Rattle.stores.proofs.Walking.{drop_nth}

module _ {S A : Type 0} (steps : S → Option A → S → Type 0) (v : A → Item) (at : S → ℕ) (P : S → Type 0) (ys : List Item)
    (more : (s t : S) (x : A) → P s → steps s (Some x) t → P t × (at t ≡ at s + 1) × (Some (v x) ≡ slice_get ys (at s)))
    (end : (s t : S) → P s → steps s None t → length ys ≤ at s) where
  go : (zs : List Item) (s : S) → P s → zs ≡ drop (at s) ys → AlwaysYields steps v s zs
  go [] s p e = λ x t w.
      let h = more s t x p w in
      some_none (ap (λ l. slice_get l 0) (sym (drop_nth ys (at s) (v x) h.2) ∙ sym e))
  go (z ∷ zs) s p e = (
    λ t w. some_none (ap (λ l. slice_get l 0) (e ∙ drop_all (at s) ys (end s t p w))),
    λ x t w.
        let h = more s t x p w in
        let q = e ∙ drop_nth ys (at s) (v x) h.2 in
        (some_same (v x) z (sym (ap (λ l. slice_get l 0) q)), go zs t h.0 (ap (drop 1) q ∙ ap (λ n. drop n ys) (sym h.1))),
  )

  pub yields_from : (s : S) → P s → YieldsList steps v s (drop (at s) ys)
  yields_from s p = record { runs = go (drop (at s) ys) s p (λ _. drop (at s) ys) }

-- the entries of a sound group, where `of` is the group of a walk and `next` the index that it stands at
pub yields_entries : {S D : Type 0} (sound : D → Type 0) (group : D → Group) (of : S → Bor D) (next : S → ℕ) (t : D) → sound t → (it : S) → (of it).now ≡ t
    → YieldsList (λ a r b. (of b ≡ of a) × GivesEntry (sound (of a).now) (group (of a).now).items (next a) r (next b)) item_in it (drop (next it) (group t).items)
yields_entries sound group of next t s it same =
    yields_from (λ a r b. (of b ≡ of a) × GivesEntry (sound (of a).now) (group (of a).now).items (next a) r (next b)) item_in next (λ a. (of a).now ≡ t) (group t).items
    (λ a b x p w. (ap (λ r. r.now) w.0 ∙ p, w.1.moved, subst (λ k. sound k → Some (item_in x) ≡ slice_get (group k).items (next a)) p w.1.here s))
    (λ a b p w. subst (λ k. sound k → length (group k).items ≤ next a) p w.1 s) it same
