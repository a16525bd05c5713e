-- What is read is written again as the same bytes, and is a well-formed group.
use Rattle.std.proofs.Common.{◌≡◌, ℕ, zero, suc, ◌+◌, ◌*◌, ◌/◌, ◌^◌, ◌<◌, ◌≤◌, true, false, not, ◌&&◌, List, [], ◌∷◌, ◌++◌, map, length, take, drop, Some, None, Option, sym, refl, ap, ◌∙◌, subst, ap₂, ⊎_elim, append_assoc, arith, length-append, length-drop, length-take, take-add}
use Rattle.std.specs.List.{flat_map, AllByRecursion, slice_get}
use Rattle.std.proofs.ByRecursion.{All-take, All-drop, All-append}
use Rattle.std.proofs.lemmas.List.{map-append, drop-drop}
use Rattle.std.proofs.lemmas.Bool.{and_parts, not-true, false≢true, cases_Bool, or_left, or_right, or_cases}
use Rattle.refusals.specs.declared.Refusal.{Refusal}
use Rattle.causal.specs.declared.dots.Dot.{Dot}
use Rattle.causal.specs.declared.runs.Run.{Run}
use Rattle.causal.specs.Dots.{same_dot}
use Rattle.contexts.specs.Contexts.{most_runs}
use Rattle.kinds.specs.Kinds.{ValueKind}
use Rattle.causal.specs.Runs.{has, canonical, last}
use Rattle.causal.proofs.RunFacts.{sound_from, canonical_from, canonical_test}
use Rattle.stores.specs.Items.{Item, precedes, Ascends, Apart, has_dot}
use Rattle.stores.specs.Sound.{Proper}
use Rattle.stores.proofs.ItemOrder.{precedes_transitive, dot_equal, dot_itself}
use Rattle.groups.specs.Groups.{Group, Known, Formed}
use Rattle.records.specs.declared.record.Origin.{Origin}
use Rattle.records.specs.declared.record.PartEntry.{PartEntry}
use Rattle.records.specs.declared.record.Record.{Record}
use Rattle.records.specs.declared.record.Record.TheVariants.{Entry as of_entry, Run as of_run, Origin as of_origin}
use Rattle.reading.specs.Faults.{bad_record, stray_dot}
use Rattle.records.specs.Fields.{fields_of}
use Rattle.reading.specs.Reading.{item_in, item_follows, run_fault, record_fault, among, stray, dots_of, faulty, complete, finished, scan, first_group}
use Rattle.records.specs.Records.{decoded, encoded, origin_in, is_origin}
use Rattle.reading.specs.SpellingLaws.{Bytes, OneSpelling}
use Rattle.records.specs.Written.{entry_record, records_for, written, record_count, Narrow, Writable}
use Rattle.records.proofs.Spelling.{bytes_narrow}
use Rattle.records.proofs.Reading.{encoded_decoded, record_in_range, decoded_entry, decoded_origin}
use Rattle.reading.proofs.Resume.{resume}
use Rattle.reading.proofs.ReadBack.{length_records, read_back, parcel_back}
use Rattle.reading.proofs.Stepping.{EntryGood, some_inner, entry_good, run_good, follows_canonical}

-- what has been read so far

pub record Good (ks : List ValueKind) (xs : List Item) (rs : List Run) : Type 0 where
  pub ascends : Ascends xs
  pub proper : AllByRecursion (Proper ks) xs
  pub one_form : canonical rs ≡ true
  pub few : length rs ≤ most_runs

reaches : (y : Item) (ys : List Item) (x : Item) → Ascends (y ∷ ys) → item_follows (last (y ∷ ys)) x ≡ true → precedes y x ≡ true
reaches y [] x a f = f
reaches y (z ∷ ys) x a f = precedes_transitive y z x a.0.0 (reaches z ys x a.1 f)

ascends_more : (xs : List Item) (x : Item) → Ascends xs → item_follows (last xs) x ≡ true → Ascends (xs ++ (x ∷ []))
ascends_more [] x a f = (tt, tt)
ascends_more (y ∷ []) x a f = ((f, tt), (tt, tt))
ascends_more (y ∷ z ∷ ys) x a f =
    (All-append (λ w. precedes y w ≡ true) (z ∷ ys) (x ∷ []) a.0 (reaches y (z ∷ ys) x a f, tt), ascends_more (z ∷ ys) x a.1 f)

-- from no stray dot: every dot is known, and none stands twice

stray_told : (rs : List Run) (seen : List Dot) (n : ℕ) (d : Dot) (ds : List Dot) → stray rs seen n (d ∷ ds) ≡ None → (has rs d ≡ true) × (among d seen ≡ false) × (stray rs (seen ++ (d ∷ [])) (n + 1) ds ≡ None)
stray_told rs seen n d ds e =
    let a = some_inner (has rs d && not (among d seen)) (stray rs (seen ++ (d ∷ [])) (n + 1) ds) n e in
    let b = and_parts (has rs d) (not (among d seen)) a.0 in
    (b.0, not-true (among d seen) b.1, a.1)

all_known : (rs : List Run) (seen : List Dot) (n : ℕ) (xs : List Item) → stray rs seen n (dots_of xs) ≡ None → AllByRecursion (Known rs) xs
all_known rs seen n [] e = tt
all_known rs seen n (x ∷ xs) e = let h = stray_told rs seen n x.dot (dots_of xs) e in (h.0, all_known rs (seen ++ (x.dot ∷ [])) (n + 1) xs h.2)

seen_more : (d e : Dot) (seen : List Dot) → among d seen ≡ true → among d (seen ++ (e ∷ [])) ≡ true
seen_more d e [] p = absurd (false≢true p)
seen_more d e (c ∷ cs) p =
    ⊎_elim (λ q. or_left (same_dot c d) (among d (cs ++ (e ∷ []))) q) (λ q. or_right (same_dot c d) (among d (cs ++ (e ∷ []))) (seen_more d e cs q)) (or_cases (same_dot c d) (among d cs) p)

last_seen : (d : Dot) (seen : List Dot) → among d (seen ++ (d ∷ [])) ≡ true
last_seen d [] = or_left (same_dot d d) false (dot_itself d)
last_seen d (c ∷ cs) = or_right (same_dot c d) (among d (cs ++ (d ∷ []))) (last_seen d cs)

not_seen : (d e : Dot) (seen : List Dot) → among d seen ≡ true → among e seen ≡ false → same_dot e d ≡ false
not_seen d e seen p q = ⊎_elim (λ t. absurd (false≢true (sym q ∙ ap (λ c. among c seen) (dot_equal e d t) ∙ p))) (λ t. t) (cases_Bool (same_dot e d))

-- a dot that was seen comes no more
not_again : (rs : List Run) (d : Dot) (seen : List Dot) (n : ℕ) (xs : List Item) → among d seen ≡ true → stray rs seen n (dots_of xs) ≡ None → AllByRecursion (λ x. has_dot d x ≡ false) xs
not_again rs d seen n [] a e = tt
not_again rs d seen n (x ∷ xs) a e =
    let h = stray_told rs seen n x.dot (dots_of xs) e in
    (not_seen d x.dot seen a h.1, not_again rs d (seen ++ (x.dot ∷ [])) (n + 1) xs (seen_more d x.dot seen a) h.2)

all_apart : (rs : List Run) (seen : List Dot) (n : ℕ) (xs : List Item) → stray rs seen n (dots_of xs) ≡ None → Apart xs
all_apart rs seen n [] e = tt
all_apart rs seen n (x ∷ xs) e =
    let h = stray_told rs seen n x.dot (dots_of xs) e in
    (not_again rs x.dot (seen ++ (x.dot ∷ [])) (n + 1) xs (last_seen x.dot seen) h.2, all_apart rs (seen ++ (x.dot ∷ [])) (n + 1) xs h.2)

-- records, each in its 24 bytes

abbrev pub Chunks : List ℕ → List Record → Type 0
Chunks bs [] = Unit {0}
Chunks bs (r ∷ rs) = (decoded (take 24 bs) ≡ Some r) × Chunks (drop 24 bs) rs

-- the record with a number
pub chunk_at : (bs : List ℕ) (rs : List Record) (i : ℕ) → Chunks bs rs → i < length rs → decoded (take 24 (drop (24 * i) bs)) ≡ slice_get rs i
chunk_at bs [] i h l = absurd (omega arith)
chunk_at bs (r ∷ rs) zero h l = h.0
chunk_at bs (r ∷ rs) (suc i) h l =
    let e : 24 * suc i ≡ 24 + 24 * i = omega arith in
    ap (λ k. decoded (take 24 (drop k bs))) e ∙ ap (λ cs. decoded (take 24 cs)) (sym (drop-drop (24 * i) 24 bs)) ∙ chunk_at (drop 24 bs) rs i h.1 (omega arith)

-- the outcome of a scan that comes to an end

pub record Outcome (ks : List ValueKind) (xs : List Item) (rs : List Run) (n left : ℕ) (bs : List ℕ) (g : Group) (o : Origin) (m : ℕ) : Type 0 where
  pub taken : List Record
  pub within : length taken ≤ left
  pub chunks : Chunks bs taken
  pub count : m ≡ n + length taken
  pub all : map entry_record xs ++ (map of_run rs ++ taken) ≡ records_for g o
  pub good : Good ks g.items g.runs
  pub no_stray : stray g.runs [] 0 (dots_of g.items) ≡ None

never : {A : Type 0} (f : Refusal) (g : Group) (o : Origin) (m : ℕ) → faulty f ≡ complete g o m → A
never f g o m e = cc

module _ (ks : List ValueKind) (g : Group) (o : Origin) (m : ℕ) where
  -- what is to show of a scan
  abbrev Ends : ℕ → Type 0
  Ends left = (xs : List Item) (rs : List Run) (n : ℕ) (bs : List ℕ) → Good ks xs rs → scan ks xs rs n left bs ≡ complete g o m → Outcome ks xs rs n left bs g o m

  module _ (xs : List Item) (rs : List Run) (n left : ℕ) (bs : List ℕ) (h : Good ks xs rs) where
    with_entry : Ends left → (e : PartEntry) → decoded (take 24 bs) ≡ Some (of_entry e) → EntryGood ks (last xs) rs (item_in e) → scan ks (xs ++ (item_in e ∷ [])) rs (n + 1) left (drop 24 bs) ≡ complete g o m
        → Outcome ks xs rs n (suc left) bs g o m
    with_entry ih e d t s =
        let x = item_in e in
        let proper : Proper ks x = record { placed = t.placed; address = record_in_range (fields_of (take 24 bs)) (of_entry e) d; fits = t.fits } in
        let good : Good ks (xs ++ (x ∷ [])) rs = record { ascends = ascends_more xs x h.ascends t.follows; proper = All-append (Proper ks) xs (x ∷ []) h.proper (proper, tt); one_form = h.one_form; few = h.few } in
        let r = ih (xs ++ (x ∷ [])) rs (n + 1) (drop 24 bs) good s in
        record {
          taken = of_entry e ∷ r.taken;
          within = (let w = r.within in omega arith);
          chunks = (d, r.chunks);
          count = (let c = r.count in omega arith);
          all = moved_over t.before_runs r.taken ∙ r.all;
          good = r.good;
          no_stray = r.no_stray;
        }
      where
        moved_over : rs ≡ [] → (taken : List Record) → map entry_record xs ++ (map of_run rs ++ (of_entry e ∷ taken)) ≡ map entry_record (xs ++ (item_in e ∷ [])) ++ (map of_run rs ++ taken)
        moved_over z taken =
            ap (λ qs. map entry_record xs ++ (map of_run qs ++ (of_entry e ∷ taken))) z
            ∙ sym (append_assoc (map entry_record xs) (of_entry e ∷ []) taken)
            ∙ ap (λ ys. ys ++ taken) (sym (map-append entry_record xs (item_in e ∷ [])))
            ∙ ap (λ qs. map entry_record (xs ++ (item_in e ∷ [])) ++ (map of_run qs ++ taken)) (sym z)

    with_run : Ends left → (q : Run) → decoded (take 24 bs) ≡ Some (of_run q) → run_fault rs n q ≡ None → scan ks xs (rs ++ (q ∷ [])) (n + 1) left (drop 24 bs) ≡ complete g o m → Outcome ks xs rs n (suc left) bs g o m
    with_run ih q d f s =
        let t = run_good rs n q f in
        let run_ok = record_in_range (fields_of (take 24 bs)) (of_run q) d in
        let form = canonical_test (rs ++ (q ∷ [])) (follows_canonical rs q (canonical_from rs h.one_form) (sound_from q run_ok) t.1) in
        let good : Good ks xs (rs ++ (q ∷ [])) = record { ascends = h.ascends; proper = h.proper; one_form = form; few = (let k = t.0 in omega (arith, length-append rs (q ∷ []))) } in
        let r = ih xs (rs ++ (q ∷ [])) (n + 1) (drop 24 bs) good s in
        record {
          taken = of_run q ∷ r.taken;
          within = (let w = r.within in omega arith);
          chunks = (d, r.chunks);
          count = (let c = r.count in omega arith);
          all = ap (λ ys. map entry_record xs ++ ys) (sym (append_assoc (map of_run rs) (of_run q ∷ []) r.taken) ∙ ap (λ ys. ys ++ r.taken) (sym (map-append of_run rs (q ∷ [])))) ∙ r.all;
          good = r.good;
          no_stray = r.no_stray;
        }

    with_origin : (p : Origin) → decoded (take 24 bs) ≡ Some (of_origin p) → finished xs rs p (n + 1) ≡ complete g o m → Outcome ks xs rs n (suc left) bs g o m
    with_origin p d s = go (stray rs [] 0 (dots_of xs)) refl s
      where
        go : (i : Option ℕ) → stray rs [] 0 (dots_of xs) ≡ i → elim i [ Some k ↦ faulty (stray_dot k) | None ↦ complete (record { items = xs; runs = rs }) p (n + 1) ] ≡ complete g o m → Outcome ks xs rs n (suc left) bs g o m
        go (Some k) e t = never (stray_dot k) g o m t
        go None e t =
            let same_group : record { items = xs; runs = rs } ≡ g = cc in
            let same_origin : p ≡ o = cc in
            let same_count : n + 1 ≡ m = cc in
            record {
              taken = of_origin p ∷ [];
              within = omega arith;
              chunks = (d, tt);
              count = sym same_count;
              all = ap₂ records_for same_group same_origin;
              good = subst (λ (k : Group). Good ks k.items k.runs) same_group h;
              no_stray = subst (λ (k : Group). stray k.runs [] 0 (dots_of k.items) ≡ None) same_group e;
            }

    step : Ends left → scan ks xs rs n (suc left) bs ≡ complete g o m → Outcome ks xs rs n (suc left) bs g o m
    step ih s = go (record_fault ks (last xs) rs n (decoded (take 24 bs))) (decoded (take 24 bs)) refl refl s
      where
        go : (f : Option Refusal) (r : Option Record) → record_fault ks (last xs) rs n (decoded (take 24 bs)) ≡ f → decoded (take 24 bs) ≡ r → resume ks xs rs n left (drop 24 bs) f r ≡ complete g o m → Outcome ks xs rs n (suc left) bs g o m
        go (Some f) r p q t = never f g o m t
        go None None p q t = never (bad_record n) g o m t
        go None (Some (of_entry e)) p q t = with_entry ih e q (entry_good ks (last xs) rs n (item_in e) (sym (ap (record_fault ks (last xs) rs n) q) ∙ p)) t
        go None (Some (of_run r)) p q t = with_run ih r q (sym (ap (record_fault ks (last xs) rs n) q) ∙ p) t
        go None (Some (of_origin r)) p q t = with_origin r q t

  ends : (left : ℕ) → Ends left
  ends zero xs rs n bs h s = never _ g o m s
  ends (suc left) xs rs n bs h s = step xs rs n left bs h (ends left) s

module _ (ks : List ValueKind) (bs : List ℕ) (g : Group) (o : Origin) (n : ℕ) (e : first_group ks bs ≡ complete g o n) where
  ended : Outcome ks [] [] 0 (length bs / 24) bs g o n
  ended = ends ks g o n (length bs / 24) [] [] 0 bs (record { ascends = tt; proper = tt; one_form = refl; few = omega arith }) e

  -- the records that were read are those of the group
  pub read_records : Chunks bs (records_for g o)
  read_records = subst (Chunks bs) ended.all ended.chunks

  pub as_many : n ≡ record_count g
  as_many =
      let c : n ≡ length ended.taken = let k = ended.count in omega arith in
      c ∙ ap length ended.all ∙ length_records g o

  pub read_within : 24 * n ≤ length bs
  read_within = let w = ended.within in let k = ended.count in omega arith

  pub read_few : length g.runs ≤ most_runs
  read_few = ended.good.few

  pub read_formed : Formed ks g
  read_formed =
      let h = ended.good in
      record { one_form = h.one_form; ascends = h.ascends; apart = all_apart g.runs [] 0 g.items ended.no_stray; proper = h.proper; known = all_known g.runs [] 0 g.items ended.no_stray }

-- records in bytes are in range

-- the bytes of records are what writing them gives
chunks_bytes : (bs : List ℕ) (rs : List Record) → Bytes bs → 24 * length rs ≤ length bs → Chunks bs rs → take (24 * length rs) bs ≡ flat_map encoded rs
chunks_bytes bs [] u l h = refl
chunks_bytes bs (r ∷ rs) u l h =
    let k : 24 * suc (length rs) ≡ 24 + 24 * length rs = omega arith in
    let w : length (take 24 bs) ≡ 24 = omega (arith, length-take 24 bs) in
    ap (λ i. take i bs) k ∙ take-add 24 (24 * length rs) bs
    ∙ ap₂ (λ x y. x ++ y) (sym (encoded_decoded (take 24 bs) r w (All-take (λ b. b < 256) 24 bs u) h.0))
    (chunks_bytes (drop 24 bs) rs (All-drop (λ b. b < 256) 24 bs u) (omega (arith, length-drop 24 bs)) h.1)

-- what a record in bytes says fits its bytes
abbrev Fitting : Record → Type 0
Fitting (of_entry e) = Narrow (item_in e)
Fitting (of_run r) = Unit {0}
Fitting (of_origin o) = (is_origin o ≡ true) × (o.until < 2 ^ 32)

record_fits : (bs : List ℕ) (r : Record) → Bytes bs → decoded bs ≡ Some r → Fitting r
record_fits bs (of_entry e) u d =
    let w = bytes_narrow bs u in
    subst (λ (y : PartEntry). Narrow (item_in y)) (decoded_entry bs e d) (record { part = w.part; first = w.first; second = w.second; third = w.third; fourth = w.fourth })
record_fits bs (of_run r) u d = tt
record_fits bs (of_origin o) u d =
    let w = bytes_narrow bs u in
    let fits : (origin_in (fields_of bs)).until < 2 ^ 32 = let a = w.third in let b = w.fourth in omega arith in
    (record_in_range (fields_of bs) (of_origin o) d, subst (λ (q : Origin). q.until < 2 ^ 32) (decoded_origin bs o d) fits)

chunks_fit : (bs : List ℕ) (rs : List Record) → Bytes bs → Chunks bs rs → AllByRecursion Fitting rs
chunks_fit bs [] u h = tt
chunks_fit bs (r ∷ rs) u h = (record_fits (take 24 bs) r (All-take (λ b. b < 256) 24 bs u) h.0, chunks_fit (drop 24 bs) rs (All-drop (λ b. b < 256) 24 bs u) h.1)

items_fit : (xs : List Item) (rest : List Record) → AllByRecursion Fitting (map entry_record xs ++ rest) → AllByRecursion Narrow xs × AllByRecursion Fitting rest
items_fit [] rest h = (tt, h)
items_fit (x ∷ xs) rest h = let k = items_fit xs rest h.1 in ((h.0, k.0), k.1)

runs_fit : (rs : List Run) (rest : List Record) → AllByRecursion Fitting (map of_run rs ++ rest) → AllByRecursion Fitting rest
runs_fit [] rest h = h
runs_fit (r ∷ rs) rest h = runs_fit rs rest h.1

module _ (ks : List ValueKind) (bs : List ℕ) (g : Group) (o : Origin) (n : ℕ) (u : Bytes bs) (e : first_group ks bs ≡ complete g o n) where
  pub same_bytes : take (24 * n) bs ≡ written g o
  same_bytes =
      let c : n ≡ length (records_for g o) = as_many ks bs g o n e ∙ sym (length_records g o) in
      let w = read_within ks bs g o n e in
      ap (λ k. take (24 * k) bs) c ∙ chunks_bytes bs (records_for g o) u (omega arith) (read_records ks bs g o n e)

  pub read_writable : Writable g o
  read_writable =
      let a = items_fit g.items (map of_run g.runs ++ (of_origin o ∷ [])) (chunks_fit bs (records_for g o) u (read_records ks bs g o n e)) in
      let b = runs_fit g.runs (of_origin o ∷ []) a.1 in
      record { few = read_few ks bs g o n e; narrow = a.0; origin = b.0.0; until_fits = b.0.1 }

  pub rest_unseen : (rest : List ℕ) → first_group ks (take (24 * n) bs ++ rest) ≡ complete g o n
  rest_unseen rest = ap (λ b. first_group ks (b ++ rest)) same_bytes ∙ read_back ks g o (read_formed ks bs g o n e) read_writable rest ∙ ap (complete g o) (sym (as_many ks bs g o n e))

pub one_spelling : (ks : List ValueKind) → OneSpelling ks
one_spelling ks = record {
  read_back = λ g o rest f w. read_back ks g o f w rest;
  parcel_back = λ g o f w. parcel_back ks g o f w;
  same_bytes = λ bs g o n u e. same_bytes ks bs g o n u e;
  as_many = λ bs g o n u e. as_many ks bs g o n e;
  formed = λ bs g o n u e. read_formed ks bs g o n e;
  writable = λ bs g o n u e. read_writable ks bs g o n u e;
  rest_unseen = λ bs rest g o n u e. rest_unseen ks bs g o n u e rest;
}
