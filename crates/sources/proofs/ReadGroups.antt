-- A group that was read is laid out in its bytes.
use Rattle.std.proofs.Common.{◌≡◌, ℕ, zero, suc, ◌+◌, ◌-◌, ◌*◌, ◌/◌, ◌^◌, ◌<◌, ◌≤◌, Bool, true, false, cond, ltb, List, [], ◌∷◌, ◌++◌, map, length, take, drop, replicate, is_some, Some, None, Ok, Option, sym, refl, ap, ◌∙◌, subst, inl, inr, arith}
use Rattle.std.specs.List.{slice_get}
use Rattle.std.proofs.lemmas.List.{length-map}
use Rattle.std.proofs.lemmas.Bool.{cases_order, cond-true, cond-false, lt-ltb, le-ltb, ltb-false, false≢true}
use Rattle.causal.specs.declared.runs.Run.{Run}
use Rattle.kinds.specs.Kinds.{ValueKind}
use Rattle.stores.specs.Items.{Item}
use Rattle.groups.specs.Groups.{Group}
use Rattle.records.specs.declared.record.Origin.{Origin}
use Rattle.records.specs.declared.record.Record.{Record}
use Rattle.records.specs.declared.record.Record.TheVariants.{Run as of_run, Origin as of_origin}
use Rattle.reading.specs.Faults.{trailing_records}
use Rattle.reading.specs.Reading.{Reading, faulty, complete, first_group, alone, parcel_group, summary}
use Rattle.records.specs.Records.{decoded}
use Rattle.records.specs.Written.{entry_record, records_for, record_count}
use Rattle.reading.proofs.ReadBack.{length_records}
use Rattle.reading.proofs.Rewrites.{chunk_at, read_records, as_many, read_within, read_few, read_formed}
use Rattle.sources.specs.Sources.{Readable, Countable}
use Rattle.shelves.specs.Parcels.{record_of}
use Rattle.sources.specs.Layouts.{entry_part, run_part, item_then, run_then, items_in, runs_in, group_in, record_in, parcel_bytes}
use Rattle.sources.specs.LayoutLaws.{record_on, LaidAs, ReadGroupsAreLaid}
use Rattle.sources.specs.declared.read_groups.ReadGroup.{ReadGroup}
use Rattle.sources.specs.Readings.{Holds, ReadAs, Answers, HoldsParcel, LeadsWith}
use Rattle.sources.proofs.Lists.{nth_front, nth_rest}

-- records that are those of items and of runs, from the record i on

module _ (f : ℕ → Option Record) where
  first_is : {X : Type 0} (m : X → Record) (i : ℕ) (x : X) (xs : List X) → ((k : ℕ) → k < length (x ∷ xs) → f (i + k) ≡ slice_get (map m (x ∷ xs)) k) → f i ≡ Some (m x)
  first_is m i x xs h = let e : i ≡ i + 0 = omega arith in ap f e ∙ h 0 (omega arith)

  later_are : {X : Type 0} (m : X → Record) (i : ℕ) (x : X) (xs : List X) → ((k : ℕ) → k < length (x ∷ xs) → f (i + k) ≡ slice_get (map m (x ∷ xs)) k) → (k : ℕ) → k < length xs → f (i + 1 + k) ≡ slice_get (map m xs) k
  later_are m i x xs h k l = let e : i + 1 + k ≡ i + suc k = omega arith in ap f e ∙ h (suc k) (omega arith)

  items_are : (i : ℕ) (xs : List Item) → ((k : ℕ) → k < length xs → f (i + k) ≡ slice_get (map entry_record xs) k) → items_in f i (length xs) ≡ xs
  items_are i [] h = refl
  items_are i (x ∷ xs) h =
      ap (λ o. item_then (entry_part o) (items_in f (i + 1) (length xs))) (first_is entry_record i x xs h) ∙ ap (λ ys. x ∷ ys) (items_are (i + 1) xs (later_are entry_record i x xs h))

  runs_are : (i : ℕ) (rs : List Run) → ((k : ℕ) → k < length rs → f (i + k) ≡ slice_get (map of_run rs) k) → runs_in f i (length rs) ≡ rs
  runs_are i [] h = refl
  runs_are i (r ∷ rs) h =
      ap (λ o. run_then (run_part o) (runs_in f (i + 1) (length rs))) (first_is of_run i r rs h) ∙ ap (λ ys. r ∷ ys) (runs_are (i + 1) rs (later_are of_run i r rs h))

nth_mapped : {X : Type 0} (m : X → Record) (xs : List X) (i : ℕ) → i < length xs → (x : X) × (slice_get (map m xs) i ≡ Some (m x))
nth_mapped m [] i l = absurd (omega arith)
nth_mapped m (x ∷ xs) zero l = (x, refl)
nth_mapped m (x ∷ xs) (suc i) l = nth_mapped m xs i (omega arith)

-- the records of a group, by number

module _ (g : Group) (o : Origin) where
  es : List Record
  es = map entry_record g.items

  qs : List Record
  qs = map of_run g.runs

  length_es : length (map entry_record g.items) ≡ length g.items
  length_es = length-map g.items entry_record

  nth_item : (k : ℕ) → k < length g.items → slice_get (records_for g o) k ≡ slice_get (map entry_record g.items) k
  nth_item k l = let e = length_es in nth_front (map entry_record g.items) (map of_run g.runs ++ (of_origin o ∷ [])) k (omega arith)

  nth_after : (k : ℕ) → slice_get (records_for g o) (length g.items + k) ≡ slice_get (map of_run g.runs ++ (of_origin o ∷ [])) k
  nth_after k =
      let e = length_es in
      let z : length g.items + k - length (map entry_record g.items) ≡ k = omega arith in
      nth_rest (map entry_record g.items) (map of_run g.runs ++ (of_origin o ∷ [])) (length g.items + k) (omega arith) ∙ ap (slice_get (map of_run g.runs ++ (of_origin o ∷ []))) z

  nth_run : (k : ℕ) → k < length g.runs → slice_get (records_for g o) (length g.items + k) ≡ slice_get (map of_run g.runs) k
  nth_run k l = let e = length-map g.runs of_run in nth_after k ∙ nth_front (map of_run g.runs) (of_origin o ∷ []) k (omega arith)

  nth_origin : slice_get (records_for g o) (length g.items + length g.runs) ≡ Some (of_origin o)
  nth_origin =
      let e = length-map g.runs of_run in
      let z : length g.runs - length (map of_run g.runs) ≡ 0 = omega arith in
      nth_after (length g.runs) ∙ nth_rest (map of_run g.runs) (of_origin o ∷ []) (length g.runs) (omega arith) ∙ ap (slice_get (of_origin o ∷ [])) z

  -- where f gives these records, the group is laid out
  pub holds_records : (f : ℕ → Option Record) → ((k : ℕ) → k < record_count g → f k ≡ slice_get (records_for g o) k) → Readable g → Countable g → Holds f (length g.items) (length g.runs) g
  holds_records f h r z =
      let same : group_in f (length g.items) (length g.runs) ≡ g = λ i. record {
        items = items_are f 0 g.items (λ k l. let e : 0 + k ≡ k = omega arith in ap f e ∙ h k (omega arith) ∙ nth_item k l) i;
        runs = runs_are f (length g.items) g.runs (λ k l. h (length g.items + k) (omega arith) ∙ nth_run k l) i;
      } in
      record {
        laid = record {
          entries_first = λ i l. let m = nth_mapped entry_record g.items i l in (record { part = m.0.part; entry = record { place = m.0.place; dot = m.0.dot; value = m.0.code } }, h i (omega arith) ∙ nth_item i l ∙ m.1);
          runs_follow = λ i l. let m = nth_mapped of_run g.runs i l in (m.0, h (length g.items + i) (omega arith) ∙ nth_run i l ∙ m.1);
          readable = subst Readable (sym same) r;
          fits = omega arith;
        };
        same = same;
        countable = z;
      }

module _ (ks : List ValueKind) (bytes : List ℕ) (g : Group) (o : Origin) (n : ℕ) (small : length bytes < 2 ^ 64) (e : first_group ks bytes ≡ complete g o n) where
  -- the records in the bytes are those of the group
  at : (k : ℕ) → k < record_count g → record_in bytes k ≡ slice_get (records_for g o) k
  at k l =
      let m = as_many ks bytes g o n e in
      let w = read_within ks bytes g o n e in
      let c = length_records g o in
      ap decoded (cond-true (ltb k (length bytes / 24)) (take 24 (drop (24 * k) bytes)) (replicate 24 0) (lt-ltb k (length bytes / 24) (omega arith)))
      ∙ chunk_at bytes (records_for g o) k (read_records ks bytes g o n e) (omega arith)

  read_readable : Readable g
  read_readable = record {
    one_form = (read_formed ks bytes g o n e).one_form;
    few = read_few ks bytes g o n e;
  }

  read_countable : Countable g
  read_countable = let m = as_many ks bytes g o n e in let w = read_within ks bytes g o n e in omega arith

  pub holds_read : Holds (record_in bytes) (length g.items) (length g.runs) g
  holds_read = holds_records g o (record_in bytes) at read_readable read_countable

  -- the record after the entries is none
  after_entries : is_some (entry_part (record_in bytes (length g.items))) ≡ false
  after_entries = go g.runs refl
    where
      go : (rs : List Run) → g.runs ≡ rs → is_some (entry_part (record_in bytes (length g.items))) ≡ false
      go [] q =
          let l : length g.runs ≡ 0 = ap length q in
          let z : length g.items ≡ length g.items + length g.runs = omega arith in
          ap (λ k. is_some (entry_part (record_in bytes k))) z ∙ ap (λ r. is_some (entry_part r)) (at (length g.items + length g.runs) (omega arith) ∙ nth_origin g o)
      go (r ∷ rs) q =
          let l : length g.runs ≡ suc (length rs) = ap length q in
          let z : length g.items ≡ length g.items + 0 = omega arith in
          ap (λ k. is_some (entry_part (record_in bytes k))) z ∙ ap (λ x. is_some (entry_part x)) (at (length g.items + 0) (omega arith) ∙ nth_run g o 0 (omega arith) ∙ ap (λ ts. slice_get (map of_run ts) 0) q)

  entry_before : (k : ℕ) → k < length g.items → is_some (entry_part (record_in bytes k)) ≡ true
  entry_before k l = ap (λ r. is_some (entry_part r)) (holds_read.laid.entries_first k l).1

  -- as many entries lead as the group has
  pub leads_same : (count m : ℕ) → record_count g ≤ count → LeadsWith (record_in bytes) count m → m ≡ length g.items
  leads_same count m room h = elim (cases_order m (length g.items)) [
    | inl q ↦ q
    | inr r ↦ elim r [
      | inl less ↦ absurd (false≢true (sym (h.then_other (omega arith)) ∙ entry_before m less))
      | inr more ↦ absurd (false≢true (sym after_entries ∙ h.entries (length g.items) more))
    ]
  ]

-- a parcel

alone_told : (all : ℕ) (r : Reading) (g : Group) (o : Origin) (n : ℕ) → alone all r ≡ complete g o n → (r ≡ complete g o n) × (all ≤ n)
alone_told all (faulty f) g o n e = let z : ◌≡◌ {A = ℕ} 0 1 = cc in absurd (omega arith)
alone_told all (complete h p m) g o n e = go (ltb m all) refl e
  where
    go : (b : Bool) → ltb m all ≡ b → cond b (faulty (trailing_records m)) (complete h p m) ≡ complete g o n → (complete h p m ≡ complete g o n) × (all ≤ n)
    go true k q = let z : ◌≡◌ {A = ℕ} 0 1 = cc in absurd (omega arith)
    go false k q = let same : m ≡ n = cc in let l = ltb-false m all k in (q, omega arith)

pub holds_parcel : (bytes : List ℕ) (count m runs : ℕ) → length bytes < 2 ^ 64 → count ≡ length bytes / 24 → LeadsWith (record_in bytes) count m → runs ≡ count - m - 1 → HoldsParcel bytes m runs
holds_parcel bytes count m runs small whole leads rest ks g o n e =
    let t = alone_told (length bytes / 24) (first_group ks bytes) g o n e in
    let a = as_many ks bytes g o n t.0 in
    let w = read_within ks bytes g o n t.0 in
    let l = t.1 in
    let p = leads_same ks bytes g o n small t.0 count m (omega arith) leads in
    let q : runs ≡ length g.runs = omega arith in
    subst (λ k. Holds (record_in bytes) m k g) (sym q) (subst (λ k. Holds (record_in bytes) k (length g.runs) g) (sym p) (holds_read ks bytes g o n small t.0))

-- the answer of a reading

module _ (ks : List ValueKind) (bytes : List ℕ) (small : length bytes < 2 ^ 64) (r : ReadGroup) (here : r.group.records.memory.now ≡ bytes)
    (entries : r.group.entries ≡ r.summary.entries) (runs : r.group.runs ≡ r.summary.runs) where
  read_as : (g : Group) (o : Origin) (n : ℕ) → first_group ks bytes ≡ complete g o n → Ok r.summary ≡ summary (complete g o n) → ReadAs ks bytes r g o n
  read_as g o n e told =
      let s : r.summary ≡ record { origin = o; entries = length g.items; runs = length g.runs; length = 24 * n } = cc in
      let a : r.group.entries ≡ length g.items = entries ∙ ap (λ x. x.entries) s in
      let b : r.group.runs ≡ length g.runs = runs ∙ ap (λ x. x.runs) s in
      record {
        told = told;
        in_place = here;
        holds = subst (λ k. Holds (record_in bytes) r.group.entries k g) (sym b) (subst (λ k. Holds (record_in bytes) k (length g.runs) g) (sym a) (holds_read ks bytes g o n small e));
        formed = read_formed ks bytes g o n e;
      }

  pub first_answers : (x : Reading) → first_group ks bytes ≡ x → Ok r.summary ≡ summary x → Answers ks bytes x (Ok r)
  first_answers (faulty f) e t = let z : ◌≡◌ {A = ℕ} 0 1 = cc in absurd (omega arith)
  first_answers (complete g o n) e t = read_as g o n e t

  pub parcel_answers : (x : Reading) → parcel_group ks bytes ≡ x → Ok r.summary ≡ summary x → Answers ks bytes x (Ok r)
  parcel_answers (faulty f) e t = let z : ◌≡◌ {A = ℕ} 0 1 = cc in absurd (omega arith)
  parcel_answers (complete g o n) e t = read_as g o n (alone_told (length bytes / 24) (first_group ks bytes) g o n e).0 t

-- what is read again from where the bytes lie

laid_as : (ks : List ValueKind) (bytes : List ℕ) (g : Group) (o : Origin) (n : ℕ) → length bytes < 2 ^ 64 → first_group ks bytes ≡ complete g o n → LaidAs (record_in bytes) g
laid_as ks bytes g o n small e = let h = holds_read ks bytes g o n small e in record { laid = h.laid; same = h.same }

-- a shelf gives the records of the parcel's bytes
same_records : (p : Option (List ℕ)) (i : ℕ) → decoded (record_of p i) ≡ record_in (parcel_bytes p) i
same_records None i = ap decoded (sym (cond-false (ltb i 0) (take 24 (drop (24 * i) [])) (replicate 24 0) (le-ltb i 0 (omega arith))))
same_records (Some bytes) i = refl

on_parcel : (parcels : List (List ℕ)) (position : ℕ) (bytes : List ℕ) → slice_get parcels position ≡ Some bytes → record_in bytes ≡ record_on parcels position
on_parcel parcels position bytes e = ap (λ p. λ i. decoded (record_of p i)) (sym e)

pub read_groups_are_laid : ReadGroupsAreLaid
read_groups_are_laid = record {
  in_bytes = laid_as;
  on_shelf = λ ks parcels position bytes g o n there small e. subst (λ f. LaidAs f g) (on_parcel parcels position bytes there) (laid_as ks bytes g o n small e);
  same_records = λ parcels position i. same_records (slice_get parcels position) i;
}
