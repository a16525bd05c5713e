-- Where a reader stands, and its next step.
use Rattle.std.specs.Prelude.{ℕ, ◌+◌, ◌-◌, ◌*◌, ◌/◌, min, cond, List, [], ◌∷◌, ◌++◌, map, length, Some, None, Ok, Err, Option, Result, nat_lt, slice_index}
use Rattle.std.specs.List.{range_with_len}
use Rattle.std.specs.Option.{option_map}
use Rattle.refusals.specs.declared.Refusal.{Refusal}
use Rattle.causal.specs.declared.dots.Dot.{Dot}
use Rattle.causal.specs.declared.runs.Run.{Run}
use Rattle.contexts.specs.Contexts.{runs_of, with_run}
use Rattle.causal.specs.Runs.{dot}
use Rattle.kinds.specs.Kinds.{ValueKind}
use Rattle.stores.specs.Items.{Item}
use Rattle.reading.specs.declared.reader.GroupReader.{GroupReader}
use Rattle.reading.specs.declared.reader.progress.Progress.{Progress}
use Rattle.records.specs.declared.record.GroupSummary.{GroupSummary}
use Rattle.records.specs.declared.record.Origin.{Origin}
use Rattle.records.specs.declared.record.Record.{Record}
use Rattle.records.specs.declared.record.Record.TheVariants.{Entry as of_entry, Run as of_run, Origin as of_origin}
use Rattle.records.specs.Fields.{two}
use Rattle.reading.specs.Faults.{no_origin, stray_dot}
use Rattle.reading.specs.Reading.{item_in, record_fault, stray}
use Rattle.records.specs.Records.{decoded, record_at}

-- the bytes, how many records have been read, the last item and the runs among them
pub record Stand : Type 0 where
  pub bytes : List ℕ
  pub at : ℕ
  pub last_item : Option Item
  pub runs : List Run

abbrev pub start : List ℕ → Stand
start bytes = record { bytes = bytes; at = 0; last_item = None; runs = [] }

-- where a reader of these bytes stands that has come so far
abbrev pub stand_at : List ℕ → Progress → Stand
stand_at bytes p = record { bytes = bytes; at = p.at; last_item = option_map item_in p.last_entry; runs = runs_of p.context }

abbrev pub stand_of : GroupReader → Stand
stand_of r = stand_at r.bytes.now r.progress

abbrev pub next_fault : List ValueKind → Stand → Option Refusal
next_fault ks s =
    cond (nat_lt s.at (length s.bytes / 24))
    (record_fault ks s.last_item s.runs s.at (decoded (record_at s.at s.bytes)))
    (Some (no_origin s.at))

-- what has come before, once the record is read
abbrev pub moved : Stand → Record → Stand
moved s (of_entry e) = record { bytes = s.bytes; at = s.at + 1; last_item = Some (item_in e); runs = s.runs }
moved s (of_run r) = record { bytes = s.bytes; at = s.at + 1; last_item = s.last_item; runs = s.runs ++ (r ∷ []) }
moved s (of_origin o) = record { bytes = s.bytes; at = s.at + 1; last_item = s.last_item; runs = s.runs }

abbrev pub moved_by : Option Record → Stand → Stand
moved_by None s = s
moved_by (Some r) s = moved s r

-- the record that is read; none where there is a fault
abbrev pub next_record : Option Refusal → Stand → Option Record
next_record (Some fault) s = None
next_record None s = decoded (record_at s.at s.bytes)

-- the same, where a run may also touch or overlap those before it, and a count may be at its end
abbrev pub passed : Stand → Record → Stand
passed s (of_entry e) = record { bytes = s.bytes; at = min (s.at + 1) 18446744073709551615; last_item = Some (item_in e); runs = s.runs }
passed s (of_run r) = record { bytes = s.bytes; at = min (s.at + 1) 18446744073709551615; last_item = s.last_item; runs = with_run s.runs r }
passed s (of_origin o) = record { bytes = s.bytes; at = min (s.at + 1) 18446744073709551615; last_item = s.last_item; runs = s.runs }

-- the dot in the bytes of a record, whatever record that is
abbrev pub dot_in : List ℕ → Dot
dot_in bytes = dot (slice_index bytes 2) (two 4 bytes)

-- and in those of record n
abbrev pub dot_at : List ℕ → ℕ → Dot
dot_at bytes n = dot (slice_index bytes (24 * n + 2)) (two (24 * n + 4) bytes)

-- the dots in the first n records
abbrev pub dots_at : List ℕ → ℕ → List Dot
dots_at bytes n = map (dot_at bytes) (range_with_len 0 n)

-- what is told of a group that ends here, with this origin as the last record
abbrev pub closing : ℕ → Stand → Origin → Option ℕ → Result GroupSummary Refusal
closing entries s o (Some index) = Err (stray_dot index)
closing entries s o None = Ok (record { origin = o; entries = entries; runs = length s.runs; length = min (s.at * 24) 18446744073709551615 })

-- the records before the origin that are no runs
abbrev pub entries_read : Stand → ℕ
entries_read s = min (s.at - (length s.runs + 1)) (length s.bytes / 24)

abbrev pub closed : Stand → Origin → Result GroupSummary Refusal
closed s o = closing (entries_read s) s o (stray s.runs [] 0 (dots_at s.bytes (entries_read s)))
