-- Records and bytes are each told by the other.
use Rattle.std.proofs.Common.{◌≡◌, ℕ, ◌+◌, ◌*◌, ◌/◌, ◌%◌, ◌<◌, Bool, true, false, cond, eqb, List, length, Some, None, sym, refl, ap, ◌∙◌, subst, arith}
use Rattle.std.specs.List.{AllByRecursion}
use Rattle.std.proofs.lemmas.Bool.{and_parts, eqb-true, cond-true}
use Rattle.std.proofs.lemmas.Bool.Decides.{nat_tests}
use Rattle.std.proofs.lemmas.Option.{same_Some}
use Rattle.causal.specs.declared.places.Place.{Place}
use Rattle.causal.specs.Runs.{is_run, dot}
use Rattle.stores.specs.Puts.{is_address}
use Rattle.records.specs.declared.fields.Fields.{Fields}
use Rattle.records.specs.declared.record.Origin.{Origin}
use Rattle.records.specs.declared.record.PartEntry.{PartEntry}
use Rattle.records.specs.declared.record.Record.{Record}
use Rattle.records.specs.declared.record.Record.TheVariants.{Entry as of_entry, Run as of_run, Origin as of_origin}
use Rattle.records.specs.Fields.{fields_of, spelled}
use Rattle.records.specs.Records.{no_keys, entry_in, run_in, origin_in, is_entry_record, is_run_record, is_origin, is_origin_record, record_of, fields_for, decoded, encoded, is_record}
use Rattle.records.proofs.Spelling.{Narrow, fields_back, spelled_back, bytes_narrow}

-- what each test tells of the fields

record EntryTold (f : Fields) : Type 0 where
  pub tag : f.tag ≡ 1
  pub spare : f.spare ≡ 0
  pub high : f.high ≡ 0
  pub address : is_address f.place (dot f.replica f.low) ≡ true

entry_told : (f : Fields) → is_entry_record f ≡ true → EntryTold f
unfolding is_entry_record
entry_told f h =
    let a = and_parts (eqb f.tag 1) _ h in
    let b = and_parts (eqb f.spare 0) _ a.1 in
    let c = and_parts (eqb f.high 0) _ b.1 in
    record { tag = eqb-true f.tag 1 a.0; spare = eqb-true f.spare 0 b.0; high = eqb-true f.high 0 c.0; address = c.1 }

record KeysTold (p : Place) : Type 0 where
  pub first : p.first ≡ 0
  pub second : p.second ≡ 0
  pub third : p.third ≡ 0
  pub fourth : p.fourth ≡ 0

keys_told : (p : Place) → no_keys p ≡ true → KeysTold p
keys_told p h = record { first = grind (arith, nat_tests); second = grind (arith, nat_tests); third = grind (arith, nat_tests); fourth = grind (arith, nat_tests) }

record RunTold (f : Fields) : Type 0 where
  pub tag : f.tag ≡ 2
  pub part : f.part ≡ 0
  pub spare : f.spare ≡ 0
  pub keys : KeysTold f.place
  pub code : f.code ≡ 0
  pub run : is_run (run_in f) ≡ true

run_told : (f : Fields) → is_run_record f ≡ true → RunTold f
unfolding is_run_record
run_told f h =
    let a = and_parts (eqb f.tag 2) _ h in
    let b = and_parts (eqb f.part 0) _ a.1 in
    let c = and_parts (eqb f.spare 0) _ b.1 in
    let d = and_parts (no_keys f.place) _ c.1 in
    let e = and_parts (eqb f.code 0) _ d.1 in
    record { tag = eqb-true f.tag 2 a.0; part = eqb-true f.part 0 b.0; spare = eqb-true f.spare 0 c.0; keys = keys_told f.place d.0; code = eqb-true f.code 0 e.0; run = e.1 }

record OriginTold (f : Fields) : Type 0 where
  pub tag : f.tag ≡ 3
  pub part : f.part ≡ 0
  pub spare : f.spare ≡ 0
  pub low : f.low ≡ 0
  pub high : f.high ≡ 0
  pub code : f.code ≡ 0
  pub origin : is_origin (origin_in f) ≡ true

origin_told : (f : Fields) → is_origin_record f ≡ true → OriginTold f
unfolding is_origin_record
origin_told f h =
    let a = and_parts (eqb f.tag 3) _ h in
    let b = and_parts (eqb f.part 0) _ a.1 in
    let c = and_parts (eqb f.spare 0) _ b.1 in
    let d = and_parts (eqb f.low 0) _ c.1 in
    let e = and_parts (eqb f.high 0) _ d.1 in
    let g = and_parts (eqb f.code 0) _ e.1 in
    record { tag = eqb-true f.tag 3 a.0; part = eqb-true f.part 0 b.0; spare = eqb-true f.spare 0 c.0; low = eqb-true f.low 0 d.0; high = eqb-true f.high 0 e.0; code = eqb-true f.code 0 g.0; origin = g.1 }

-- what holds of each of the three records of these fields holds of theirs
of_each : (f : Fields) (P : Record → Type 0) → (EntryTold f → P (of_entry (entry_in f))) → (RunTold f → P (of_run (run_in f))) → (OriginTold f → P (of_origin (origin_in f))) → (r : Record) → record_of f ≡ Some r → P r
of_each f P entry run origin r e = go (is_entry_record f) (is_run_record f) (is_origin_record f) refl refl refl e
  where
    go : (a b c : Bool) → is_entry_record f ≡ a → is_run_record f ≡ b → is_origin_record f ≡ c
        → cond a (Some (of_entry (entry_in f))) (cond b (Some (of_run (run_in f))) (cond c (Some (of_origin (origin_in f))) None)) ≡ Some r → P r
    go true b c h k l e = subst P (same_Some (of_entry (entry_in f)) r e) (entry (entry_told f h))
    go false true c h k l e = subst P (same_Some (of_run (run_in f)) r e) (run (run_told f k))
    go false false true h k l e = subst P (same_Some (of_origin (origin_in f)) r e) (origin (origin_told f l))
    go false false false h k l e = cc

-- fields that make a record are the fields of that record

upper : (a b : ℕ) → b < 65536 → (a * 65536 + b) / 65536 ≡ a
upper a b h = omega arith

lower : (a b : ℕ) → b < 65536 → (a * 65536 + b) % 65536 ≡ b
lower a b h = omega arith

pub fields_for_back : (f : Fields) (r : Record) → Narrow f → record_of f ≡ Some r → fields_for r ≡ f
fields_for_back f r n e = of_each f (λ r. fields_for r ≡ f) of_entry_fields of_run_fields of_origin_fields r e
  where
    of_entry_fields : EntryTold f → fields_for (of_entry (entry_in f)) ≡ f
    of_entry_fields t = λ i. record { tag = sym t.tag i; part = f.part; replica = f.replica; spare = sym t.spare i; low = f.low; high = sym t.high i; place = f.place; code = f.code }

    of_run_fields : RunTold f → fields_for (of_run (run_in f)) ≡ f
    of_run_fields t =
        let k = t.keys in
        λ i. record { tag = sym t.tag i; part = sym t.part i; replica = f.replica; spare = sym t.spare i; low = f.low; high = f.high; place = record { first = sym k.first i; second = sym k.second i; third = sym k.third i; fourth = sym k.fourth i }; code = sym t.code i }

    of_origin_fields : OriginTold f → fields_for (of_origin (origin_in f)) ≡ f
    of_origin_fields t =
        let p = f.place in
        λ i. record {
          tag = sym t.tag i;
          part = sym t.part i;
          replica = f.replica;
          spare = sym t.spare i;
          low = sym t.low i;
          high = sym t.high i;
          place = record { first = upper p.first p.second n.second i; second = lower p.first p.second n.second i; third = upper p.third p.fourth n.fourth i; fourth = lower p.third p.fourth n.fourth i };
          code = sym t.code i;
        }

-- a record that is in range is read back from its fields

whole : (n : ℕ) → n / 65536 * 65536 + n % 65536 ≡ n
whole n = omega arith

origin_whole : (o : Origin) → origin_in (fields_for (of_origin o)) ≡ o
origin_whole o = λ i. record { sender = o.sender; since = whole o.since i; until = whole o.until i }

pub record_back : (r : Record) → is_record r ≡ true → record_of (fields_for r) ≡ Some r
unfolding is_entry_record is_run_record is_origin_record
record_back (of_entry e) h = cond-true (is_address e.entry.place e.entry.dot) _ _ h
record_back (of_run r) h = cond-true (is_run r) _ _ h
record_back (of_origin o) h = cond-true (is_origin (origin_in (fields_for (of_origin o)))) _ _ (ap is_origin (origin_whole o) ∙ h) ∙ ap (λ x. Some (of_origin x)) (origin_whole o)

-- fields that make a record make one that is in range
pub record_in_range : (f : Fields) (r : Record) → record_of f ≡ Some r → is_record r ≡ true
record_in_range f r e = of_each f (λ r. is_record r ≡ true) (λ t. t.address) (λ t. t.run) (λ t. t.origin) r e

-- bytes and records

pub decoded_encoded : (r : Record) → Narrow (fields_for r) → is_record r ≡ true → decoded (encoded r) ≡ Some r
decoded_encoded r n h = ap record_of (fields_back (fields_for r) n) ∙ record_back r h

pub encoded_decoded : (bs : List ℕ) (r : Record) → length bs ≡ 24 → AllByRecursion (λ b. b < 256) bs → decoded bs ≡ Some r → encoded r ≡ bs
encoded_decoded bs r l u e = ap spelled (fields_for_back (fields_of bs) r (bytes_narrow bs u) e) ∙ spelled_back bs l u

-- an entry that is read is the one in the fields
pub decoded_entry : (bs : List ℕ) (e : PartEntry) → decoded bs ≡ Some (of_entry e) → entry_in (fields_of bs) ≡ e
decoded_entry bs e h = of_each (fields_of bs) (λ r. r ≡ of_entry e → entry_in (fields_of bs) ≡ e) (λ t p. cc) (λ t p. cc) (λ t p. cc) (of_entry e) h refl

-- and so is an origin
pub decoded_origin : (bs : List ℕ) (o : Origin) → decoded bs ≡ Some (of_origin o) → origin_in (fields_of bs) ≡ o
decoded_origin bs o h = of_each (fields_of bs) (λ r. r ≡ of_origin o → origin_in (fields_of bs) ≡ o) (λ t p. cc) (λ t p. cc) (λ t p. cc) (of_origin o) h refl
