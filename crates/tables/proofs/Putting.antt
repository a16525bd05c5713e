-- What a put into a table comes to.
use Rattle.std.proofs.Common.{◌≡◌, ℕ, ◌+◌, ◌<◌, ◌≤◌, Bool, true, false, cond, not, leb, List, [], ◌∷◌, length, take, Some, None, Option, sym, ap, ◌∙◌, arith}
use Rattle.std.specs.List.{slice_get, insert}
use Rattle.std.proofs.lemmas.Bool.{cond-true, and_from, and_left, and_right, lt-leb, le-leb}
use Rattle.kinds.specs.Kinds.{ValueKind}
use Rattle.refusals.specs.declared.Refusal.{Refusal}
use Rattle.stores.specs.declared.entries.Entry.{Entry}
use Rattle.stores.specs.Items.{Item, item_of, item_at, count_part, stands, merge, put_items}
use Rattle.stores.specs.Faults.{bad_address, bad_code, part_full}
use Rattle.stores.specs.Puts.{is_address, crowded, full_if, first_of, misfit, put_refusal, accept, put_of, put_after}
use Rattle.stores.specs.Sound.{Orderly}
use Rattle.stores.proofs.Stays.{orderly_put}
use Rattle.tables.specs.Rows.{items, lead, adjust, ahead, other, usable}
use Rattle.tables.proofs.RowLaws.{found_stands, unfound_stands, put_found, put_new}
use Rattle.tables.proofs.TableLaws.{count_used, rows_orderly}

-- an entry with which nothing is wrong, and the first row with its dot
pub record Putting {V : Type 0} (coded : V → ℕ) (k : ValueKind) (rows : List (Entry V)) (len part : ℕ) (e : Entry ℕ) (v : V) (n : ℕ) : Type 0 where
  pub within : len ≤ length rows
  pub orderly : Orderly (k ∷ []) (usable (length rows) ∷ []) (items coded (take len rows))
  pub zero_part : part ≡ 0
  pub good : is_address e.place e.dot ≡ true
  pub is : coded v ≡ e.value
  pub fit : k.fits (coded v) ≡ true
  pub sought : n ≡ lead (other e.dot) (take len rows)

module _ {V : Type 0} {coded : V → ℕ} {k : ValueKind} {rows : List (Entry V)} {len part : ℕ} {e : Entry ℕ} {v : V} {n : ℕ} (p : Putting coded k rows len part e v n) where
  abbrev pub row : Entry V
  row = record { place = e.place; dot = e.dot; value = v }

  abbrev room : ℕ
  room = usable (length rows)

  abbrev here : List Item
  here = items coded (take len rows)

  abbrev refusal : Option Refusal
  refusal = put_refusal (k ∷ []) (room ∷ []) here part e

  abbrev after : List Item
  after = put_after (k ∷ []) (room ∷ []) here part e

  refusal_is : (b : Bool) → crowded (room ∷ []) here 0 e.dot ≡ b → refusal ≡ full_if 0 b
  refusal_is b cr =
      let F : ℕ → Option Refusal = λ q. put_refusal (k ∷ []) (room ∷ []) here q e in
      let fits : misfit (k ∷ []) 0 e ≡ None =
      cond-true (is_address e.place e.dot) (cond (k.fits e.value) None (Some bad_code)) (Some bad_address) p.good
      ∙ cond-true (k.fits e.value) None (Some bad_code) (ap k.fits (sym p.is) ∙ p.fit) in
      ap F p.zero_part ∙ ap (λ m. first_of m (full_if 0 (crowded (room ∷ []) here 0 e.dot))) fits ∙ ap (full_if 0) cr

  after_accepted : None ≡ refusal → put_items k (item_of coded 0 row) here ≡ after
  after_accepted a =
      let make : ℕ → Item = λ m. record { part = 0; place = e.place; dot = e.dot; code = m } in
      let G : ℕ → List Item = λ q. put_of (slice_get (k ∷ []) q) (item_at q e) here in
      ap (λ m. put_items k (make m) here) p.is ∙ ap G (sym p.zero_part) ∙ ap (λ f. accept f (G part) here) a

  -- the dot stands
  module _ (h : n < len) where
    pub joined_answer : None ≡ refusal
    joined_answer = sym (refusal_is false (and_left (not (stands e.dot here)) (leb room (count_part 0 here)) (ap not (found_stands coded k rows len e.dot n p.within p.sought h))))

    pub joined_after : (new : List (Entry V)) → items coded new ≡ adjust (merge k (item_of coded 0 row)) n (items coded rows) → items coded (take len new) ≡ after
    joined_after new j = put_found coded k rows len row n p.within p.sought h new j p.orderly.apart ∙ after_accepted joined_answer

  -- the dot is a new one
  module _ (h : len ≤ n) where
    absent : stands e.dot here ≡ false
    absent = unfound_stands coded k rows len e.dot n p.within p.sought h

    module _ (full : room ≤ len) where
      pub refused_answer : Some (part_full 0) ≡ refusal
      refused_answer =
          let u = count_used coded rows len p.within in
          sym (refusal_is true (and_from (not (stands e.dot here)) (leb room (count_part 0 here)) (ap not absent) (le-leb room (count_part 0 here) (omega arith))))

      pub refused_after : here ≡ after
      refused_after = ap (λ r. accept r (put_of (slice_get (k ∷ []) part) (item_at part e) here) here) refused_answer

    module _ (free : len < room) where
      pub inserted_answer : None ≡ refusal
      inserted_answer =
          let u = count_used coded rows len p.within in
          sym (refusal_is false (and_right (not (stands e.dot here)) (leb room (count_part 0 here)) (lt-leb room (count_part 0 here) (omega arith))))

      pub inserted_after : (new : List (Entry V)) (at : ℕ) → at ≡ lead (ahead e.place e.dot) (take len rows) → take (len + 1) new ≡ insert (take len rows) at row → items coded (take (len + 1) new) ≡ after
      inserted_after new at a i = put_new coded k rows len row n p.within p.sought h new at a i ∙ after_accepted inserted_answer

  pub orderly_after : (new : List (Entry V)) (m : ℕ) → length new ≡ length rows → items coded (take m new) ≡ after → Orderly (k ∷ []) (usable (length new) ∷ []) (items coded (take m new))
  orderly_after new m l a = rows_orderly k (length rows) (length new) l after (items coded (take m new)) a (orderly_put (k ∷ []) (room ∷ []) here part e p.orderly)
