-- A group written record by record.
use Rattle.std.proofs.Common.{◌≡◌, ℕ, zero, suc, ◌+◌, ◌-◌, ◌*◌, ◌/◌, ◌<◌, ◌≤◌, ltb, List, [], ◌∷◌, ◌++◌, map, length, get_or, take, drop, Some, None, Ok, Err, sym, ap, ◌∙◌, ap₂, inl, inr, append_assoc, arith, length-append, length-drop, length-take, take_all, drop-drop, take_at}
use lib.Seq.{drop-append-add}
use Rattle.std.specs.List.{slice_get, flat_map}
use Rattle.std.proofs.lemmas.List.{take_more, length-map}
use Rattle.std.proofs.lemmas.Option.{slice_get-get_or, slice_get_past}
use Rattle.std.proofs.lemmas.Bool.{cases_lt, cond-true, cond-false, lt-ltb, le-ltb}
use Rattle.causal.specs.declared.runs.Run.{Run}
use Rattle.stores.specs.Items.{Item}
use Rattle.groups.specs.Groups.{Group}
use Rattle.records.specs.declared.record.Origin.{Origin}
use Rattle.records.specs.declared.record.PartEntry.{PartEntry}
use Rattle.records.specs.declared.record.Record.{Record}
use Rattle.records.specs.declared.record.Record.TheVariants.{Entry as of_entry, Run as of_run, Origin as of_origin}
use Rattle.reading.specs.Reading.{item_in}
use Rattle.records.specs.Records.{encoded}
use Rattle.records.specs.Written.{entry_record, records_for, record_count, written, with_record, in_front, too_short, write_answer, write_memory}
use Rattle.reading.proofs.ReadBack.{joined_append, length_encoded}
use Rattle.sources.proofs.Lists.{nth_front, nth_rest}

-- these records in front, the rest as it was
abbrev pub filled : List Record → List ℕ → List ℕ
filled rs old = flat_map encoded rs ++ drop (24 * length rs) old

length_filled : (rs : List Record) (old : List ℕ) → 24 * length rs ≤ length old → length (filled rs old) ≡ length old
length_filled rs old l =
    let a = length-append (flat_map encoded rs) (drop (24 * length rs) old) in
    let b = length_encoded rs in
    let c = length-drop (24 * length rs) old in
    omega arith

-- one record more
pub fill_more : (rs : List Record) (r : Record) (old : List ℕ) → length rs < length old / 24 → with_record (filled rs old) (length rs) r ≡ filled (rs ++ (r ∷ [])) old
fill_more rs r old l =
    let n = length rs in
    let ws = flat_map encoded rs in
    let rest = drop (24 * n) old in
    let w = length_encoded rs in
    let len = length_filled rs old (omega arith) in
    let front : take (24 * n) (ws ++ rest) ≡ ws = take_at ws rest (24 * n) w in
    let e : 24 * n + 24 ≡ length ws + 24 = omega arith in
    let back : drop (24 * n + 24) (ws ++ rest) ≡ drop (24 * n + 24) old = ap (λ k. drop k (ws ++ rest)) e ∙ drop-append-add ws rest 24 ∙ drop-drop 24 (24 * n) old in
    let one : length (rs ++ (r ∷ [])) ≡ n + 1 = length-append rs (r ∷ []) in
    let more : 24 * n + 24 ≡ 24 * length (rs ++ (r ∷ [])) = omega arith in
    cond-true (ltb n (length (filled rs old) / 24)) _ (filled rs old) (lt-ltb n (length (filled rs old) / 24) (omega arith))
    ∙ ap₂ (λ us vs. us ++ (encoded r ++ vs)) front back
    ∙ sym (append_assoc ws (encoded r) (drop (24 * n + 24) old))
    ∙ ap₂ (λ us k. us ++ drop k old) (sym (joined_append rs (r ∷ []))) more

-- the first i records, and one more
pub fill_next : (all : List Record) (i : ℕ) (r : Record) (old : List ℕ) → i < length all → length all ≤ length old / 24 → Some r ≡ slice_get all i → with_record (filled (take i all) old) i r ≡ filled (take (i + 1) all) old
fill_next all i r old l room e =
    let s : Some r ≡ Some (get_or all i r) = e ∙ slice_get-get_or all i r l in
    let q : r ≡ get_or all i r = cc in
    let n : length (take i all) ≡ i = let t = length-take i all in omega arith in
    ap (λ k. with_record (filled (take i all) old) k r) (sym n) ∙ fill_more (take i all) r old (omega arith)
    ∙ ap (λ rs. filled rs old) (ap (λ z. take i all ++ (z ∷ [])) q ∙ sym (take_more all i r l))

-- all of them
pub fill_all : (g : Group) (o : Origin) (i : ℕ) (old : List ℕ) → length (records_for g o) ≤ i → filled (take i (records_for g o)) old ≡ in_front (written g o) old
fill_all g o i old l =
    let all = records_for g o in
    ap (λ rs. filled rs old) (take_all i all l) ∙ ap (λ k. written g o ++ drop k old) (sym (length_encoded all))

-- the record with a number, by whether there is an entry or a run with it

module _ (g : Group) (o : Origin) (i : ℕ) where
  mapped_record : (xs : List Item) (k : ℕ) (e : PartEntry) → Some (item_in e) ≡ slice_get xs k → slice_get (map entry_record xs) k ≡ Some (of_entry e)
  mapped_record [] k e h = let z : ◌≡◌ {A = ℕ} 0 1 = cc in absurd (omega arith)
  mapped_record (x ∷ xs) zero e h = let s : item_in e ≡ x = cc in ap (λ y. Some (entry_record y)) (sym s)
  mapped_record (x ∷ xs) (suc k) e h = mapped_record xs k e h

  mapped_run : (rs : List Run) (k : ℕ) (r : Run) → Some r ≡ slice_get rs k → slice_get (map of_run rs) k ≡ Some (of_run r)
  mapped_run [] k r h = let z : ◌≡◌ {A = ℕ} 0 1 = cc in absurd (omega arith)
  mapped_run (q ∷ rs) zero r h = let s : r ≡ q = cc in ap (λ y. Some (of_run y)) (sym s)
  mapped_run (q ∷ rs) (suc k) r h = mapped_run rs k r h

  within : {X : Type 0} (xs : List X) (k : ℕ) (x : X) → Some x ≡ slice_get xs k → k < length xs
  within xs k x e = elim (cases_lt k (length xs)) [ inl l ↦ l | inr m ↦ let s : Some x ≡ None = e ∙ slice_get_past xs k m in let z : ◌≡◌ {A = ℕ} 0 1 = cc in absurd (omega arith) ]

  past : {X : Type 0} (xs : List X) (k : ℕ) → None ≡ slice_get xs k → length xs ≤ k
  past [] k e = omega arith
  past (x ∷ xs) k e = elim (cases_lt k (suc (length xs))) [ inl l ↦ let s : None ≡ Some (get_or (x ∷ xs) k x) = e ∙ slice_get-get_or (x ∷ xs) k x l in let z : ◌≡◌ {A = ℕ} 0 1 = cc in absurd (omega arith) | inr m ↦ m ]

  pub record_entry : (e : PartEntry) → Some (item_in e) ≡ slice_get g.items i → Some (of_entry e) ≡ slice_get (records_for g o) i
  record_entry e h =
      let l = within g.items i (item_in e) h in
      let m = length-map g.items entry_record in
      sym (nth_front (map entry_record g.items) (map of_run g.runs ++ (of_origin o ∷ [])) i (omega arith) ∙ mapped_record g.items i e h)

  after : (j : ℕ) → length g.items ≤ i → j ≡ i - length g.items → slice_get (records_for g o) i ≡ slice_get (map of_run g.runs ++ (of_origin o ∷ [])) j
  after j l e =
      let m = length-map g.items entry_record in
      let z : i - length (map entry_record g.items) ≡ j = omega arith in
      nth_rest (map entry_record g.items) (map of_run g.runs ++ (of_origin o ∷ [])) i (omega arith) ∙ ap (slice_get (map of_run g.runs ++ (of_origin o ∷ []))) z

  pub record_run : (j : ℕ) (r : Run) → None ≡ slice_get g.items i → j ≡ i - length g.items → Some r ≡ slice_get g.runs j → Some (of_run r) ≡ slice_get (records_for g o) i
  record_run j r none e h =
      let l = within g.runs j r h in
      let m = length-map g.runs of_run in
      sym (after j (past g.items i none) e ∙ nth_front (map of_run g.runs) (of_origin o ∷ []) j (omega arith) ∙ mapped_run g.runs j r h)

  pub record_origin : (j : ℕ) → None ≡ slice_get g.items i → j ≡ i - length g.items → None ≡ slice_get g.runs j → i < record_count g → Some (of_origin o) ≡ slice_get (records_for g o) i
  record_origin j none e no_run l =
      let a = past g.items i none in
      let b = past g.runs j no_run in
      let m = length-map g.runs of_run in
      let z : j - length (map of_run g.runs) ≡ 0 = omega arith in
      sym (after j a e ∙ nth_rest (map of_run g.runs) (of_origin o ∷ []) j (omega arith) ∙ ap (slice_get (of_origin o ∷ [])) z)

-- what is answered and left where there is no room for the bytes, and where there is

pub no_room : (bytes old : List ℕ) (needed : ℕ) → needed ≡ length bytes → length old < needed → (Err (too_short needed) ≡ write_answer bytes old) × (old ≡ write_memory bytes old)
no_room bytes old needed e l =
    let t = lt-ltb (length old) (length bytes) (omega arith) in (
      ap (λ k. Err (too_short k)) e ∙ sym (cond-true (ltb (length old) (length bytes)) (Err (too_short (length bytes))) (Ok (length bytes)) t),
      sym (cond-true (ltb (length old) (length bytes)) old (in_front bytes old) t),
    )

pub room : (bytes old : List ℕ) (needed : ℕ) → needed ≡ length bytes → needed ≤ length old → (Ok needed ≡ write_answer bytes old) × (in_front bytes old ≡ write_memory bytes old)
room bytes old needed e l =
    let f = le-ltb (length old) (length bytes) (omega arith) in (
      ap Ok e ∙ sym (cond-false (ltb (length old) (length bytes)) (Err (too_short (length bytes))) (Ok (length bytes)) f),
      sym (cond-false (ltb (length old) (length bytes)) old (in_front bytes old) f),
    )
