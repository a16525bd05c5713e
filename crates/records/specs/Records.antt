-- The three records: entry, run and origin. The tag says which; a field that a record does not name is 0.
use Rattle.std.specs.Prelude.{ℕ, ◌+◌, ◌*◌, ◌/◌, ◌%◌, Bool, cond, ◌&&◌, List, length, take, drop, replicate, Some, None, Option, ◌==◌, nat_le, nat_lt}
use Rattle.causal.specs.declared.places.Place.{Place}
use Rattle.causal.specs.declared.runs.Run.{Run}
use Rattle.causal.specs.Dots.{is_replica}
use Rattle.causal.specs.Runs.{is_run, dot, run}
use Rattle.stores.specs.Puts.{is_address}
use Rattle.records.specs.declared.fields.Fields.{Fields}
use Rattle.records.specs.declared.record.Origin.{Origin}
use Rattle.records.specs.declared.record.PartEntry.{PartEntry}
use Rattle.records.specs.declared.record.Record.{Record}
use Rattle.records.specs.declared.record.Record.TheVariants.{Entry as of_entry, Run as of_run, Origin as of_origin}
use Rattle.records.specs.Fields.{fields_of, spelled}

abbrev pub keys_of : ℕ → ℕ → ℕ → ℕ → Place
keys_of a b c d = record { first = a; second = b; third = c; fourth = d }

abbrev pub no_keys : Place → Bool
no_keys p = p.first == 0 && (p.second == 0 && (p.third == 0 && p.fourth == 0))

-- what each record says, from its fields

abbrev pub entry_in : Fields → PartEntry
entry_in f = record { part = f.part; entry = record { place = f.place; dot = dot f.replica f.low; value = f.code } }

abbrev pub run_in : Fields → Run
run_in f = run f.replica f.low f.high

-- since and until have four bytes each, where an entry has its keys
abbrev pub origin_in : Fields → Origin
origin_in f = record { sender = f.replica; since = f.place.first * 65536 + f.place.second; until = f.place.third * 65536 + f.place.fourth }

-- which fields make a record

unfoldable pub is_entry_record : Fields → Bool
is_entry_record f = f.tag == 1 && (f.spare == 0 && (f.high == 0 && is_address f.place (dot f.replica f.low)))

unfoldable pub is_run_record : Fields → Bool
is_run_record f = f.tag == 2 && (f.part == 0 && (f.spare == 0 && (no_keys f.place && (f.code == 0 && is_run (run_in f)))))

abbrev pub is_origin : Origin → Bool
is_origin o = is_replica o.sender && nat_le o.since o.until

unfoldable pub is_origin_record : Fields → Bool
is_origin_record f = f.tag == 3 && (f.part == 0 && (f.spare == 0 && (f.low == 0 && (f.high == 0 && (f.code == 0 && is_origin (origin_in f))))))

-- the record of these fields, if they make one
abbrev pub record_of : Fields → Option Record
record_of f = cond (is_entry_record f) (Some (of_entry (entry_in f))) (cond (is_run_record f) (Some (of_run (run_in f))) (cond (is_origin_record f) (Some (of_origin (origin_in f))) None))

-- the fields of a record
abbrev pub fields_for : Record → Fields
fields_for (of_entry e) = record { tag = 1; part = e.part; replica = e.entry.dot.replica; spare = 0; low = e.entry.dot.counter; high = 0; place = e.entry.place; code = e.entry.value }
fields_for (of_run r) = record { tag = 2; part = 0; replica = r.replica; spare = 0; low = r.first; high = r.last; place = keys_of 0 0 0 0; code = 0 }
fields_for (of_origin o) = record { tag = 3; part = 0; replica = o.sender; spare = 0; low = 0; high = 0; place = keys_of (o.since / 65536) (o.since % 65536) (o.until / 65536) (o.until % 65536); code = 0 }

-- the record in 24 bytes, if they are one
abbrev pub decoded : List ℕ → Option Record
decoded bytes = record_of (fields_of bytes)

abbrev pub encoded : Record → List ℕ
encoded r = spelled (fields_for r)

-- what a record says is in range
abbrev pub is_record : Record → Bool
is_record (of_entry e) = is_address e.entry.place e.entry.dot
is_record (of_run r) = is_run r
is_record (of_origin o) = is_origin o

-- the record n of these bytes, or 24 bytes 0 past the last whole one
abbrev pub record_at : ℕ → List ℕ → List ℕ
record_at n bytes = cond (nat_lt n (length bytes / 24)) (take 24 (drop (24 * n) bytes)) (replicate 24 0)
