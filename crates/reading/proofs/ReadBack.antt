-- What is written is read back.
use Rattle.std.proofs.Common.{◌≡◌, ℕ, suc, ◌+◌, ◌*◌, ◌/◌, ◌^◌, ◌<◌, ◌≤◌, true, false, not, ◌&&◌, ◌||◌, ltb, leb, List, [], ◌∷◌, ◌++◌, map, length, Some, None, Option, sym, refl, ap, ◌∙◌, subst, ap₂, append_assoc, append-nil, arith, length-append}
use Rattle.std.proofs.lemmas.List.{length-map, map-append}
use Rattle.std.specs.List.{flat_map, AllByRecursion, slice_get}
use Rattle.std.proofs.lemmas.Grind.{flat_map-append}
use Rattle.std.proofs.lemmas.Bool.{cond-true, cond-false, lt-ltb, le-ltb, leb-true, and_parts, and_from, not_from_false}
use Rattle.causal.specs.declared.dots.Dot.{Dot}
use Rattle.causal.specs.declared.runs.Run.{Run}
use Rattle.causal.specs.Dots.{is_dot, is_replica, is_counter, same_dot}
use Rattle.contexts.specs.Contexts.{most_runs}
use Rattle.kinds.specs.Kinds.{ValueKind}
use Rattle.causal.specs.Places.{is_place, depth_of}
use Rattle.causal.specs.Runs.{has, ahead, canonical, is_run, last}
use Rattle.causal.proofs.RunFacts.{sound_from}
use Rattle.stores.specs.Items.{Item, precedes, Ascends, Apart, has_dot}
use Rattle.stores.specs.Puts.{fits_kind, fits_part}
use Rattle.stores.specs.Sound.{Proper}
use Rattle.groups.specs.Groups.{Group, Known, Formed}
use Rattle.records.specs.declared.record.Origin.{Origin}
use Rattle.records.specs.declared.record.Record.{Record}
use Rattle.records.specs.declared.record.Record.TheVariants.{Run as of_run, Origin as of_origin}
use Rattle.reading.specs.Faults.{stray_dot}
use Rattle.reading.specs.Reading.{item_follows, run_follows, entry_fault, run_fault, record_fault, among, stray, dots_of, faulty, complete, finished, scan, first_group, alone, parcel_group}
use Rattle.records.specs.Records.{decoded, encoded, is_origin}
use Rattle.records.specs.Written.{entry_record, records_for, written, record_count, Narrow, Writable}
use Rattle.records.proofs.Reading.{decoded_encoded}
use Rattle.reading.proofs.Resume.{resume}
use Rattle.reading.proofs.Stepping.{last_more}
use Rattle.stores.proofs.ItemOrder.{dot_turned}

-- each record of a writable group is read back

dot_narrow : (d : Dot) → is_dot d ≡ true → (d.replica < 256) × (d.counter < 65536)
dot_narrow d h =
    let a = and_parts (is_replica d.replica) (is_counter d.counter) h in
    let b = and_parts (leb 1 d.replica) (leb d.replica 16) a.0 in
    let c = and_parts (leb 1 d.counter) (leb d.counter 65535) a.1 in
    (omega (arith, leb-true d.replica 16 b.1), omega (arith, leb-true d.counter 65535 c.1))

code_narrow : (o : Option ValueKind) (c : ℕ) → fits_kind o c ≡ true → c < 2 ^ 64
code_narrow None c h = cc
code_narrow (Some k) c h = k.narrow c h

entry_back : (ks : List ValueKind) (x : Item) → Proper ks x → Narrow x → decoded (encoded (entry_record x)) ≡ Some (entry_record x)
entry_back ks x p n =
    let a = and_parts (is_place x.place && leb 1 (depth_of x.place)) (is_dot x.dot) p.address in
    let d = dot_narrow x.dot a.1 in
    decoded_encoded (entry_record x)
    (record { tag = omega arith; part = n.part; replica = d.0; spare = omega arith; low = d.1; high = omega arith; first = n.first; second = n.second; third = n.third; fourth = n.fourth; code = code_narrow (slice_get ks x.part) x.code p.fits })
    p.address

run_back : (r : Run) → is_run r ≡ true → decoded (encoded (of_run r)) ≡ Some (of_run r)
run_back r h =
    let s = sound_from r h in
    let a = s.replica_low in
    let b = s.counter_low in
    let c = s.holds in
    decoded_encoded (of_run r) (record { tag = omega arith; part = omega arith; replica = omega arith; spare = omega arith; low = omega arith; high = omega arith; first = omega arith; second = omega arith; third = omega arith; fourth = omega arith; code = omega arith }) h

origin_back : (o : Origin) → is_origin o ≡ true → o.until < 2 ^ 32 → decoded (encoded (of_origin o)) ≡ Some (of_origin o)
origin_back o h u =
    let a = and_parts (is_replica o.sender) (leb o.since o.until) h in
    let b = and_parts (leb 1 o.sender) (leb o.sender 16) a.0 in
    let c = leb-true o.sender 16 b.1 in
    let d = leb-true o.since o.until a.1 in
    decoded_encoded (of_origin o) (record { tag = omega arith; part = omega arith; replica = omega arith; spare = omega arith; low = omega arith; high = omega arith; first = omega arith; second = omega arith; third = omega arith; fourth = omega arith; code = omega arith }) h

-- reading one record after another

module _ (ks : List ValueKind) where
  reads_record : (xs : List Item) (rs : List Run) (n left : ℕ) (rest : List ℕ) (r : Record) → decoded (encoded r) ≡ Some r → record_fault ks (last xs) rs n (Some r) ≡ None
      → scan ks xs rs n (suc left) (encoded r ++ rest) ≡ resume ks xs rs n left rest None (Some r)
  reads_record xs rs n left rest r e f = ap₂ (λ p q. resume ks xs rs n left rest p q) (ap (record_fault ks (last xs) rs n) e ∙ f) e

  -- each item follows the one before it
  abbrev Chain : Option Item → List Item → Type 0
  Chain o [] = Unit {0}
  Chain o (y ∷ ys) = (item_follows o y ≡ true) × Chain (Some y) ys

  chain_on : (x : Item) (ys : List Item) → AllByRecursion (λ y. precedes x y ≡ true) ys → Ascends ys → Chain (Some x) ys
  chain_on x [] h a = tt
  chain_on x (y ∷ ys) h a = (h.0, chain_on y ys a.0 a.1)

  chain_from : (ys : List Item) → Ascends ys → Chain None ys
  chain_from [] a = tt
  chain_from (y ∷ ys) a = (refl, chain_on y ys a.0 a.1)

  entry_fine : (o : Option Item) (n : ℕ) (y : Item) → Proper ks y → item_follows o y ≡ true → entry_fault ks o [] n y ≡ None
  entry_fine o n y p f =
      cond-true (ltb y.part (length ks)) _ _ (lt-ltb y.part (length ks) p.placed)
      ∙ cond-true (item_follows o y) _ _ f ∙ cond-true (fits_part ks y.part y.code) _ _ p.fits

  reads_entries : (ys xs : List Item) (n left : ℕ) (tail : List ℕ) → Chain (last xs) ys → AllByRecursion (Proper ks) ys → AllByRecursion Narrow ys
      → scan ks xs [] n (length ys + left) (flat_map encoded (map entry_record ys) ++ tail) ≡ scan ks (xs ++ ys) [] (n + length ys) left tail
  reads_entries [] xs n left tail c p w =
      let a : 0 + left ≡ left = omega arith in
      let b : n ≡ n + 0 = omega arith in
      ap (λ k. scan ks xs [] n k tail) a ∙ ap₂ (λ zs k. scan ks zs [] k left tail) (sym (append-nil xs)) b
  reads_entries (y ∷ ys) xs n left tail c p w =
      let more = flat_map encoded (map entry_record ys) ++ tail in
      let a : suc (length ys) + left ≡ suc (length ys + left) = omega arith in
      let b : n + 1 + length ys ≡ n + suc (length ys) = omega arith in
      ap (λ k. scan ks xs [] n k (encoded (entry_record y) ++ more)) a
      ∙ reads_record xs [] n (length ys + left) more (entry_record y) (entry_back ks y p.0 w.0) (entry_fine (last xs) n y p.0 c.0)
      ∙ reads_entries ys (xs ++ (y ∷ [])) (n + 1) left tail (subst (λ o. Chain o ys) (sym (last_more xs y)) c.1) p.1 w.1
      ∙ ap₂ (λ zs k. scan ks zs [] k left tail) (append_assoc xs (y ∷ []) ys) b

  -- each run follows the one before it
  abbrev Runs : Option Run → List Run → Type 0
  Runs o [] = Unit {0}
  Runs o (r ∷ rs) = (is_run r ≡ true) × (run_follows o r ≡ true) × Runs (Some r) rs

  runs_on : (q : Run) (rs : List Run) → ahead q rs ≡ true → canonical rs ≡ true → Runs (Some q) rs
  runs_on q [] a c = tt
  runs_on q (r ∷ rs) a c =
      let h = and_parts (is_run r) (ahead r rs && canonical rs) c in
      let k = and_parts (ahead r rs) (canonical rs) h.1 in
      (h.0, a, runs_on r rs k.0 k.1)

  runs_from : (rs : List Run) → canonical rs ≡ true → Runs None rs
  runs_from [] c = tt
  runs_from (r ∷ rs) c =
      let h = and_parts (is_run r) (ahead r rs && canonical rs) c in
      let k = and_parts (ahead r rs) (canonical rs) h.1 in
      (h.0, refl, runs_on r rs k.0 k.1)

  run_fine : (rs : List Run) (n : ℕ) (r : Run) → length rs < most_runs → run_follows (last rs) r ≡ true → run_fault rs n r ≡ None
  run_fine rs n r l f = cond-true (ltb (length rs) most_runs && run_follows (last rs) r) _ _ (and_from (ltb (length rs) most_runs) (run_follows (last rs) r) (lt-ltb (length rs) most_runs l) f)

  reads_runs : (qs rs : List Run) (xs : List Item) (n left : ℕ) (tail : List ℕ) → Runs (last rs) qs → length rs + length qs ≤ most_runs
      → scan ks xs rs n (length qs + left) (flat_map encoded (map of_run qs) ++ tail) ≡ scan ks xs (rs ++ qs) (n + length qs) left tail
  reads_runs [] rs xs n left tail c l =
      let a : 0 + left ≡ left = omega arith in
      let b : n ≡ n + 0 = omega arith in
      ap (λ k. scan ks xs rs n k tail) a ∙ ap₂ (λ zs k. scan ks xs zs k left tail) (sym (append-nil rs)) b
  reads_runs (q ∷ qs) rs xs n left tail c l =
      let more = flat_map encoded (map of_run qs) ++ tail in
      let a : suc (length qs) + left ≡ suc (length qs + left) = omega arith in
      let b : n + 1 + length qs ≡ n + suc (length qs) = omega arith in
      ap (λ k. scan ks xs rs n k (encoded (of_run q) ++ more)) a
      ∙ reads_record xs rs n (length qs + left) more (of_run q) (run_back q c.0) (run_fine rs n q (omega arith) c.1)
      ∙ reads_runs qs (rs ++ (q ∷ [])) xs (n + 1) left tail (subst (λ o. Runs o qs) (sym (last_more rs q)) c.2) (omega (arith, length-append rs (q ∷ [])))
      ∙ ap₂ (λ zs k. scan ks xs zs k left tail) (append_assoc rs (q ∷ []) qs) b

  -- no dot is astray
  not_among : (xs : List Item) (d : Dot) → AllByRecursion (λ x. same_dot x.dot d ≡ false) xs → among d (dots_of xs) ≡ false
  not_among [] d h = refl
  not_among (x ∷ xs) d h = ap (λ b. b || among d (dots_of xs)) h.0 ∙ not_among xs d h.1

  all_more : {X : Type 0} (P : X → Type 0) (xs : List X) (x : X) → AllByRecursion P xs → P x → AllByRecursion P (xs ++ (x ∷ []))
  all_more P [] x h p = (p, tt)
  all_more P (y ∷ xs) x h p = (h.0, all_more P xs x h.1 p)

  all_first : (xs : List Item) (y : Item) (ys : List Item) → AllByRecursion (λ x. AllByRecursion (λ z. same_dot x.dot z.dot ≡ false) (y ∷ ys)) xs → AllByRecursion (λ x. same_dot x.dot y.dot ≡ false) xs
  all_first [] y ys h = tt
  all_first (x ∷ xs) y ys h = (h.0.0, all_first xs y ys h.1)

  all_rest : (xs : List Item) (y : Item) (ys : List Item) → AllByRecursion (λ x. AllByRecursion (λ z. same_dot x.dot z.dot ≡ false) (y ∷ ys)) xs → AllByRecursion (λ x. AllByRecursion (λ z. same_dot x.dot z.dot ≡ false) ys) xs
  all_rest [] y ys h = tt
  all_rest (x ∷ xs) y ys h = (h.0.1, all_rest xs y ys h.1)

  all_turned : (y : Item) (ys : List Item) → AllByRecursion (λ z. has_dot y.dot z ≡ false) ys → AllByRecursion (λ z. same_dot y.dot z.dot ≡ false) ys
  all_turned y [] h = tt
  all_turned y (z ∷ ys) h = (dot_turned z.dot y.dot h.0, all_turned y ys h.1)

  no_stray : (rs : List Run) (ys xs : List Item) (n : ℕ) → AllByRecursion (λ x. AllByRecursion (λ z. same_dot x.dot z.dot ≡ false) ys) xs → Apart ys → AllByRecursion (Known rs) ys → stray rs (dots_of xs) n (dots_of ys) ≡ None
  no_stray rs [] xs n h a k = refl
  no_stray rs (y ∷ ys) xs n h a k =
      cond-true (has rs y.dot && not (among y.dot (dots_of xs))) _ _ (and_from (has rs y.dot) (not (among y.dot (dots_of xs))) k.0 (not_from_false (among y.dot (dots_of xs)) (not_among xs y.dot (all_first xs y ys h))))
      ∙ ap (λ seen. stray rs seen (n + 1) (dots_of ys)) (sym (map-append (λ (x : Item). x.dot) xs (y ∷ [])))
      ∙ no_stray rs ys (xs ++ (y ∷ [])) (n + 1) (all_more _ xs y (all_rest xs y ys h) (all_turned y ys a.0)) a.1 k.1

pub joined_append : (rs qs : List Record) → flat_map encoded (rs ++ qs) ≡ flat_map encoded rs ++ flat_map encoded qs
joined_append rs qs = flat_map-append encoded rs qs

pub length_encoded : (rs : List Record) → length (flat_map encoded rs) ≡ 24 * length rs
length_encoded [] = refl
length_encoded (r ∷ rs) = let i = length_encoded rs in let l = length-append (encoded r) (flat_map encoded rs) in omega (arith, i, l)

pub length_records : (g : Group) (o : Origin) → length (records_for g o) ≡ record_count g
length_records g o =
    length-append (map entry_record g.items) (map of_run g.runs ++ (of_origin o ∷ []))
    ∙ ap₂ (λ m n. m + n) (length-map g.items entry_record) (length-append (map of_run g.runs) (of_origin o ∷ []) ∙ ap (λ n. n + 1) (length-map g.runs of_run))

pub length_written : (g : Group) (o : Origin) → length (written g o) ≡ 24 * record_count g
length_written g o = length_encoded (records_for g o) ∙ ap (λ n. 24 * n) (length_records g o)

-- the written form, piece by piece
pieces : (g : Group) (o : Origin) (rest : List ℕ) → written g o ++ rest ≡ flat_map encoded (map entry_record g.items) ++ (flat_map encoded (map of_run g.runs) ++ (encoded (of_origin o) ++ rest))
pieces g o rest =
    let es = map entry_record g.items in
    let qs = map of_run g.runs in
    ap (λ bs. bs ++ rest) (joined_append es (qs ++ (of_origin o ∷ [])) ∙ ap (λ bs. flat_map encoded es ++ bs) (joined_append qs (of_origin o ∷ [])))
    ∙ append_assoc (flat_map encoded es) (flat_map encoded qs ++ flat_map encoded (of_origin o ∷ [])) rest
    ∙ ap (λ bs. flat_map encoded es ++ bs) (append_assoc (flat_map encoded qs) (flat_map encoded (of_origin o ∷ [])) rest)

module _ (ks : List ValueKind) (g : Group) (o : Origin) (f : Formed ks g) (w : Writable g o) where
  ends_complete : (n : ℕ) → finished g.items g.runs o n ≡ complete g o n
  ends_complete n = ap (λ i. elim i [ Some k ↦ faulty (stray_dot k) | None ↦ complete g o n ]) (no_stray ks g.runs g.items [] 0 tt f.apart f.known)

  scanned : (rest : List ℕ) (left : ℕ) → scan ks [] [] 0 (length g.items + (length g.runs + suc left)) (written g o ++ rest) ≡ complete g o (record_count g)
  scanned rest left =
      let xs = g.items in
      let rs = g.runs in
      let last_part = encoded (of_origin o) ++ rest in
      let count : 0 + length xs + length rs + 1 ≡ record_count g = omega arith in
      ap (λ bs. scan ks [] [] 0 (length xs + (length rs + suc left)) bs) (pieces g o rest)
      ∙ reads_entries ks xs [] 0 (length rs + suc left) (flat_map encoded (map of_run rs) ++ last_part) (chain_from ks xs f.ascends) f.proper w.narrow
      ∙ reads_runs ks rs [] xs (0 + length xs) (suc left) last_part (runs_from ks rs f.one_form) (let l = w.few in omega arith)
      ∙ reads_record ks xs rs (0 + length xs + length rs) left rest (of_origin o) (origin_back o w.origin w.until_fits) refl
      ∙ ap (finished xs rs o) count ∙ ends_complete (record_count g)

  pub read_back : (rest : List ℕ) → first_group ks (written g o ++ rest) ≡ complete g o (record_count g)
  read_back rest =
      let l = length-append (written g o) rest in
      let m = length_written g o in
      let e : length (written g o ++ rest) / 24 ≡ length g.items + (length g.runs + suc (length rest / 24)) = omega (arith, l, m) in
      ap (λ k. scan ks [] [] 0 k (written g o ++ rest)) e ∙ scanned rest (length rest / 24)

  pub parcel_back : parcel_group ks (written g o) ≡ complete g o (record_count g)
  parcel_back =
      let m = length_written g o in
      let e : length (written g o) / 24 ≡ record_count g = omega (arith, m) in
      let r : first_group ks (written g o) ≡ complete g o (record_count g) = ap (first_group ks) (sym (append-nil (written g o))) ∙ read_back [] in
      ap (alone (length (written g o) / 24)) r
      ∙ cond-false (ltb (record_count g) (length (written g o) / 24)) _ _ (le-ltb (record_count g) (length (written g o) / 24) (omega (arith, e)))
