-- One step of a reader.
use Rattle.std.proofs.Common.{◌≡◌, ℕ, ◌+◌, ◌/◌, ◌<◌, ◌≤◌, min, Bool, true, false, cond, ◌&&◌, ◌||◌, ltb, List, [], ◌∷◌, ◌++◌, length, Some, None, Option, sym, refl, ap, ◌∙◌, arith, length-append}
use Rattle.std.proofs.lemmas.Bool.{cond-true, cond-false, lt-ltb, le-ltb, ltb-true, and_parts, false≢true}
use Rattle.std.proofs.Math.Bool.{or_assoc}
use Rattle.causal.specs.declared.dots.Dot.{Dot}
use Rattle.causal.specs.declared.runs.Run.{Run}
use Rattle.contexts.specs.Contexts.{most_runs, too_many, with_run}
use Rattle.kinds.specs.Kinds.{ValueKind}
use Rattle.causal.specs.Runs.{has, in_run, canonical, union, is_run, last}
use Rattle.causal.proofs.RunFacts.{Sound, Canonical, sound_from, canonical_from}
use Rattle.causal.proofs.RunSets.{ext, has_union, union_canonical}
use Rattle.records.specs.declared.record.Record.{Record}
use Rattle.records.specs.declared.record.Record.TheVariants.{Entry as of_entry, Run as of_run, Origin as of_origin}
use Rattle.reading.specs.Faults.{bad_record, out_of_order, bad_code, no_origin}
use Rattle.stores.specs.Items.{Item}
use Rattle.stores.specs.Puts.{fits_part}
use Rattle.reading.specs.Reading.{item_follows, is_empty, entry_fault, record_fault, run_fault, run_follows}
use Rattle.records.specs.Records.{decoded, record_at}
use Rattle.reading.specs.Stands.{Stand, next_fault, next_record, moved, passed}
use Rattle.records.proofs.Reading.{record_in_range}
use Rattle.records.specs.Fields.{fields_of}

-- within the whole records, the record decides
pub fault_within : (ks : List ValueKind) (s : Stand) (o : Option Record) → s.at < length s.bytes / 24 → o ≡ decoded (record_at s.at s.bytes) → record_fault ks s.last_item s.runs s.at o ≡ next_fault ks s
fault_within ks s o l e =
    ap (record_fault ks s.last_item s.runs s.at) e ∙ sym (cond-true (ltb s.at (length s.bytes / 24)) _ _ (lt-ltb s.at (length s.bytes / 24) l))

-- a run that follows stands last in the union

pub follows_canonical : (rs : List Run) (r : Run) → Canonical rs → Sound r → run_follows (last rs) r ≡ true → Canonical (rs ++ (r ∷ []))
follows_canonical [] r hr s f = (s, tt, tt)
follows_canonical (q ∷ []) r hr s f = (hr.0, f, (s, tt, tt))
follows_canonical (q ∷ p ∷ rs) r hr s f = (hr.0, hr.1, follows_canonical (p ∷ rs) r hr.2 s f)

has_after : (rs : List Run) (r : Run) (d : Dot) → has (rs ++ (r ∷ [])) d ≡ (has rs d || has (r ∷ []) d)
has_after [] r d = refl
has_after (q ∷ rs) r d = ap (λ b. in_run q d || b) (has_after rs r d) ∙ sym (or_assoc (in_run q d) (has rs d) (has (r ∷ []) d))

union_after : (rs : List Run) (r : Run) → Canonical rs → Sound r → run_follows (last rs) r ≡ true → union rs (r ∷ []) ≡ rs ++ (r ∷ [])
union_after rs r hr s f =
    let one : Canonical (r ∷ []) = (s, tt, tt) in
    ext (union rs (r ∷ [])) (rs ++ (r ∷ [])) (union_canonical rs (r ∷ []) hr one) (follows_canonical rs r hr s f)
    (λ d. has_union rs (r ∷ []) d hr one ∙ sym (has_after rs r d))

pub run_appended : (rs : List Run) (r : Run) → canonical rs ≡ true → is_run r ≡ true → length rs < most_runs → run_follows (last rs) r ≡ true → with_run rs r ≡ rs ++ (r ∷ [])
run_appended rs r hr s l f =
    let e = union_after rs r (canonical_from rs hr) (sound_from r s) f in
    let few : length (rs ++ (r ∷ [])) ≤ most_runs = omega (arith, length-append rs (r ∷ [])) in
    cond-true (is_run r) _ rs s
    ∙ cond-false (too_many (union rs (r ∷ []))) rs (union rs (r ∷ [])) (ap too_many e ∙ le-ltb most_runs (length (rs ++ (r ∷ []))) few)
    ∙ e

pub last_more : {X : Type 0} (xs : List X) (x : X) → last (xs ++ (x ∷ [])) ≡ Some x
last_more [] x = refl
last_more (y ∷ []) x = refl
last_more (y ∷ z ∷ xs) x = last_more (z ∷ xs) x

-- what an entry without a fault tells
pub record EntryGood (ks : List ValueKind) (y : Option Item) (rs : List Run) (x : Item) : Type 0 where
  pub placed : x.part < length ks
  pub before_runs : rs ≡ []
  pub follows : item_follows y x ≡ true
  pub fits : fits_part ks x.part x.code ≡ true

empty_is : {X : Type 0} (xs : List X) → is_empty xs ≡ true → xs ≡ []
empty_is [] e = refl
empty_is (x ∷ xs) e = absurd (false≢true e)

pub some_inner : {A : Type 0} (b : Bool) (x : Option A) (y : A) → cond b x (Some y) ≡ None → (b ≡ true) × (x ≡ None)
some_inner true x y e = (refl, e)
some_inner false x y e = cc

pub entry_good : (ks : List ValueKind) (y : Option Item) (rs : List Run) (n : ℕ) (x : Item) → entry_fault ks y rs n x ≡ None → EntryGood ks y rs x
entry_good ks y rs n x e =
    let a = some_inner (ltb x.part (length ks)) (cond (is_empty rs && item_follows y x) (cond (fits_part ks x.part x.code) None (Some (bad_code n))) (Some (out_of_order n))) (bad_record n) e in
    let b = some_inner (is_empty rs && item_follows y x) (cond (fits_part ks x.part x.code) None (Some (bad_code n))) (out_of_order n) a.1 in
    let c = some_inner (fits_part ks x.part x.code) None (bad_code n) b.1 in
    let d = and_parts (is_empty rs) (item_follows y x) b.0 in
    record { placed = ltb-true x.part (length ks) a.0; before_runs = empty_is rs d.0; follows = d.1; fits = c.0 }

-- no fault of a run: it follows, and there is room
pub run_good : (rs : List Run) (n : ℕ) (r : Run) → run_fault rs n r ≡ None → (length rs < most_runs) × (run_follows (last rs) r ≡ true)
run_good rs n r e =
    let b = (some_inner (ltb (length rs) most_runs && run_follows (last rs) r) None (out_of_order n) e).0 in
    let h = and_parts (ltb (length rs) most_runs) (run_follows (last rs) r) b in
    (ltb-true (length rs) most_runs h.0, h.1)

-- so a reader that unites the run with those before it only appends it
pub passed_is_moved : (ks : List ValueKind) (s : Stand) (r : Record) → canonical s.runs ≡ true → s.at < length s.bytes / 24 → s.at + 1 < 18446744073709551616
    → decoded (record_at s.at s.bytes) ≡ Some r → record_fault ks s.last_item s.runs s.at (Some r) ≡ None → passed s r ≡ moved s r
passed_is_moved ks s (of_entry e) c l w d f = let m : min (s.at + 1) 18446744073709551615 ≡ s.at + 1 = omega arith in λ i. record { bytes = s.bytes; at = m i; last_item = (passed s (of_entry e)).last_item; runs = s.runs }
passed_is_moved ks s (of_run r) c l w d f =
    let m : min (s.at + 1) 18446744073709551615 ≡ s.at + 1 = omega arith in
    let g = run_good s.runs s.at r f in
    let a = run_appended s.runs r c (record_in_range (fields_of (record_at s.at s.bytes)) (of_run r) d) g.0 g.1 in
    λ i. record { bytes = s.bytes; at = m i; last_item = s.last_item; runs = a i }
passed_is_moved ks s (of_origin o) c l w d f = let m : min (s.at + 1) 18446744073709551615 ≡ s.at + 1 = omega arith in λ i. record { bytes = s.bytes; at = m i; last_item = s.last_item; runs = s.runs }

-- a step without a fault
pub next_within : (ks : List ValueKind) (s : Stand) → None ≡ next_fault ks s → s.at < length s.bytes / 24
next_within ks s e =
    ltb-true s.at (length s.bytes / 24)
    (some_inner (ltb s.at (length s.bytes / 24)) (record_fault ks s.last_item s.runs s.at (decoded (record_at s.at s.bytes))) (no_origin s.at) (sym e)).0

pub next_good : (ks : List ValueKind) (s : Stand) (r : Record) → canonical s.runs ≡ true → s.at + 1 < 18446744073709551616
    → None ≡ next_fault ks s → Some r ≡ next_record (next_fault ks s) s → passed s r ≡ moved s r
next_good ks s r c w e f =
    let l = next_within ks s e in
    let d : decoded (record_at s.at s.bytes) ≡ Some r = sym (f ∙ ap (λ x. next_record x s) (sym e)) in
    passed_is_moved ks s r c l w d (ap (record_fault ks s.last_item s.runs s.at) (sym d) ∙ fault_within ks s (decoded (record_at s.at s.bytes)) l refl ∙ sym e)

pub next_decoded : (ks : List ValueKind) (s : Stand) (r : Record) → None ≡ next_fault ks s → Some r ≡ next_record (next_fault ks s) s → decoded (record_at s.at s.bytes) ≡ Some r
next_decoded ks s r e f = sym (f ∙ ap (λ x. next_record x s) (sym e))
