-- What a change of the rows is to the items.
use Rattle.std.proofs.Common.{◌≡◌, ℕ, zero, suc, ◌+◌, ◌-◌, ◌<◌, ◌≤◌, true, false, List, [], ◌∷◌, map, length, get_or, take, set, sym, refl, ap, ◌∙◌, inl, inr, arith}
use Rattle.std.specs.List.{insert, remove, AllByRecursion}
use Rattle.std.proofs.lemmas.Bool.{cond-true, cond-false, cases_Bool, both_ways}
use Rattle.stores.proofs.ItemOrder.{precedes_transitive}
use Rattle.std.proofs.lemmas.List.{map-set, get_or-map, set-get_or, take-map, length-map, length-take-le}
use Rattle.causal.specs.declared.dots.Dot.{Dot}
use Rattle.causal.specs.Places.{same_place}
use Rattle.kinds.specs.Kinds.{ValueKind}
use Rattle.stores.specs.declared.entries.Entry.{Entry}
use Rattle.stores.specs.Items.{Item, item_of, has_dot, stands, merge, merge_dot, Apart, Ascends, insert_item, precedes, put_items, strike_items}
use Rattle.tables.specs.Rows.{items, lead, Falls, adjust, ahead, other}
use Rattle.stores.proofs.Held.{lacks, absent_stands, strike_absent}
use Rattle.tables.proofs.Found.{lead_map, adjust_set, map_inserted, map_removed, seen, unseen, merge_found, insert_is, strike_found}

take_adjust : {X : Type 0} (f : X → X) (n len : ℕ) (xs : List X) → n < len → take len (adjust f n xs) ≡ adjust f n (take len xs)
take_adjust f n zero xs h = absurd (omega arith)
take_adjust f n (suc len) [] h = refl
take_adjust f zero (suc len) (x ∷ xs) h = refl
take_adjust f (suc n) (suc len) (x ∷ xs) h = ap (λ ys. x ∷ ys) (take_adjust f n len xs (omega arith))

module _ {V : Type 0} (coded : V → ℕ) (k : ValueKind) where
  adjusted : (rows : List (Entry V)) (at : ℕ) (old row : Entry V) → at < length rows → old ≡ get_or rows at old
      → adjust (merge k (item_of coded 0 row)) at (items coded rows) ≡ set (items coded rows) at (merge k (item_of coded 0 row) (item_of coded 0 old))
  adjusted rows at old row h is =
      let f : Entry V → Item = item_of coded 0 in
      let n : at < length (items coded rows) = omega (arith, length-map rows f) in
      adjust_set (merge k (f row)) at (items coded rows) (f old) n
      ∙ ap (λ z. set (items coded rows) at (merge k (f row) z)) (get_or-map f rows at old (f old) h ∙ ap f (sym is))

  pub joined_items : (rows : List (Entry V)) (at : ℕ) (old row : Entry V) (v : V) → at < length rows → old ≡ get_or rows at old
      → same_place old.place row.place ≡ true → coded v ≡ k.join (coded old.value) (coded row.value)
      → items coded (set rows at (record { place = old.place; dot = old.dot; value = v })) ≡ adjust (merge k (item_of coded 0 row)) at (items coded rows)
  joined_items rows at old row v h is same e =
      let f : Entry V → Item = item_of coded 0 in
      let make : ℕ → Item = λ n. record { part = 0; place = old.place; dot = old.dot; code = n } in
      map-set f rows at (record { place = old.place; dot = old.dot; value = v })
      ∙ ap (λ z. set (items coded rows) at z) (ap make e ∙ sym (cond-true (same_place old.place row.place) (make (k.join (coded old.value) (coded row.value))) (f old) same))
      ∙ sym (adjusted rows at old row h is)

  pub unjoined_items : (rows : List (Entry V)) (at : ℕ) (old row : Entry V) → at < length rows → old ≡ get_or rows at old
      → same_place old.place row.place ≡ false
      → items coded rows ≡ adjust (merge k (item_of coded 0 row)) at (items coded rows)
  unjoined_items rows at old row h is other =
      let f : Entry V → Item = item_of coded 0 in
      let make : ℕ → Item = λ n. record { part = 0; place = old.place; dot = old.dot; code = n } in
      sym (set-get_or (items coded rows) at (f old))
      ∙ ap (λ z. set (items coded rows) at z) (get_or-map f rows at old (f old) h ∙ ap f (sym is) ∙ sym (cond-false (same_place old.place row.place) (make (k.join (coded old.value) (coded row.value))) (f old) other))
      ∙ sym (adjusted rows at old row h is)

  -- the searches, on the items
  pub sought : (d : Dot) (es : List (Entry V)) (n : ℕ) → n ≡ lead (other d) es → n ≡ lead (lacks d) (items coded es)
  sought d es n e = e ∙ sym (lead_map (lacks d) (item_of coded 0) es)

  pub placed : (row : Entry V) (es : List (Entry V)) (n : ℕ) → n ≡ lead (ahead row.place row.dot) es → insert (items coded es) n (item_of coded 0 row) ≡ insert_item (item_of coded 0 row) (items coded es)
  placed row es n e =
      let x = item_of coded 0 row in
      ap (λ m. insert (items coded es) m x) (e ∙ sym (lead_map (λ y. precedes y x) (item_of coded 0) es)) ∙ insert_is x (items coded es)

  -- rows in order: those that stand before a place and a dot come first
  pub falls : (row : Entry V) (es : List (Entry V)) → Ascends (items coded es) → Falls (ahead row.place row.dot) es
  falls row [] h = tt
  falls row (e ∷ es) h = ((λ f. after es h.0 f), falls row es h.1)
    where
      after : (vs : List (Entry V)) → AllByRecursion (λ y. precedes (item_of coded 0 e) y ≡ true) (items coded vs) → ahead row.place row.dot e ≡ false → AllByRecursion (λ y. ahead row.place row.dot y ≡ false) vs
      after [] p f = tt
      after (v ∷ vs) p f = (
        elim (cases_Bool (ahead row.place row.dot v)) [
          | inl t ↦ absurd (both_ways (ahead row.place row.dot e) f (precedes_transitive (item_of coded 0 e) (item_of coded 0 v) (item_of coded 0 row) p.0 t))
          | inr q ↦ q
        ],
        after vs p.1 f,
      )

  used : (rows : List (Entry V)) (len : ℕ) → len ≤ length rows → length (items coded (take len rows)) ≡ len
  used rows len h = length-map (take len rows) (item_of coded 0) ∙ length-take-le len rows h

  module _ (rows : List (Entry V)) (len : ℕ) (d : Dot) (n : ℕ) (within : len ≤ length rows) (is : n ≡ lead (other d) (take len rows)) where
    pub found_stands : n < len → stands d (items coded (take len rows)) ≡ true
    found_stands h = seen d (items coded (take len rows)) (omega (arith, used rows len within, sought d (take len rows) n is))

    pub unfound : len ≤ n → AllByRecursion (λ y. has_dot d y ≡ false) (items coded (take len rows))
    unfound h = unseen d (items coded (take len rows)) (omega (arith, used rows len within, sought d (take len rows) n is))

    pub unfound_stands : len ≤ n → stands d (items coded (take len rows)) ≡ false
    unfound_stands h = absent_stands d (items coded (take len rows)) (unfound h)

    pub struck_found : n < len → (after : List (Entry V)) → take (len - 1) after ≡ remove (take len rows) n → Apart (items coded (take len rows)) → items coded (take (len - 1) after) ≡ strike_items d (items coded (take len rows))
    struck_found h after e a =
        let xs = items coded (take len rows) in
        let m = sought d (take len rows) n is in
        ap (items coded) e ∙ map_removed (item_of coded 0) (take len rows) n ∙ ap (remove xs) m
        ∙ strike_found d xs a (omega (arith, used rows len within, m))

    pub struck_none : len ≤ n → items coded (take len rows) ≡ strike_items d (items coded (take len rows))
    struck_none h = sym (strike_absent d (items coded (take len rows)) (unfound h))

  module _ (rows : List (Entry V)) (len : ℕ) (row : Entry V) (n : ℕ) (within : len ≤ length rows) (is : n ≡ lead (other row.dot) (take len rows)) where
    pub put_found : n < len → (after : List (Entry V)) → items coded after ≡ adjust (merge k (item_of coded 0 row)) n (items coded rows) → Apart (items coded (take len rows))
        → items coded (take len after) ≡ put_items k (item_of coded 0 row) (items coded (take len rows))
    put_found h after e a =
        let f : Entry V → Item = item_of coded 0 in
        let x = f row in
        let xs = items coded (take len rows) in
        let m = sought row.dot (take len rows) n is in
        sym (take-map f len after) ∙ ap (take len) e ∙ take_adjust (merge k x) n len (items coded rows) h
        ∙ ap (adjust (merge k x) n) (take-map f len rows) ∙ ap (λ j. adjust (merge k x) j xs) m
        ∙ merge_found k x xs a (omega (arith, used rows len within, m))
        ∙ sym (cond-true (stands row.dot xs) (map (merge_dot k x) xs) (insert_item x xs) (found_stands rows len row.dot n within is h))

    pub put_new : len ≤ n → (after : List (Entry V)) (at : ℕ) → at ≡ lead (ahead row.place row.dot) (take len rows) → take (len + 1) after ≡ insert (take len rows) at row
        → items coded (take (len + 1) after) ≡ put_items k (item_of coded 0 row) (items coded (take len rows))
    put_new h after at p e =
        let f : Entry V → Item = item_of coded 0 in
        let x = f row in
        let xs = items coded (take len rows) in
        ap (items coded) e ∙ map_inserted f (take len rows) at row ∙ placed row (take len rows) at p
        ∙ sym (cond-false (stands row.dot xs) (map (merge_dot k x) xs) (insert_item x xs) (unfound_stands rows len row.dot n within is h))
