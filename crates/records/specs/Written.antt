-- A group as bytes: its items, its runs, and its origin, one record each.
use Rattle.std.specs.Prelude.{◌≡◌, ℕ, ◌+◌, ◌*◌, ◌/◌, ◌^◌, ◌<◌, ◌≤◌, true, cond, List, [], ◌∷◌, ◌++◌, map, length, take, drop, Ok, Err, Option, Result, nat_lt}
use Rattle.std.specs.List.{flat_map, AllByRecursion}
use Rattle.refusals.specs.declared.Refusal.{Refusal}
use Rattle.refusals.specs.Table.{refused, refuse_if}
use Rattle.contexts.specs.Contexts.{most_runs}
use Rattle.stores.specs.Items.{Item, entry_of}
use Rattle.groups.specs.Groups.{Group}
use Rattle.records.specs.declared.record.Origin.{Origin}
use Rattle.records.specs.declared.record.Record.{Record}
use Rattle.records.specs.declared.record.Record.TheVariants.{Entry as of_entry, Run as of_run, Origin as of_origin}
use Rattle.records.specs.declared.writer.OutputShort.{OutputShort}
use Rattle.records.specs.Records.{encoded, is_origin}

abbrev pub entry_record : Item → Record
entry_record x = of_entry (record { part = x.part; entry = entry_of x })

abbrev pub records_for : Group → Origin → List Record
records_for g o = map entry_record g.items ++ (map of_run g.runs ++ (of_origin o ∷ []))

-- the written form of a group under an origin
abbrev pub written : Group → Origin → List ℕ
written g o = flat_map encoded (records_for g o)

-- how many records that is
abbrev pub record_count : Group → ℕ
record_count g = length g.items + (length g.runs + 1)

-- the item's keys and part fit their bytes
pub record Narrow (x : Item) : Type 0 where
  pub part : x.part < 256
  pub first : x.place.first < 65536
  pub second : x.place.second < 65536
  pub third : x.place.third < 65536
  pub fourth : x.place.fourth < 65536

-- a group that can be written and read back: few runs, narrow items, and an origin whose numbers fit theirs
pub record Writable (g : Group) (o : Origin) : Type 0 where
  pub few : length g.runs ≤ most_runs
  pub narrow : AllByRecursion Narrow g.items
  pub origin : is_origin o ≡ true
  pub until_fits : o.until < 2 ^ 32

-- memory with a record at its number, where there is room for it
abbrev pub with_record : List ℕ → ℕ → Record → List ℕ
with_record memory n r = cond (nat_lt n (length memory / 24)) (take (24 * n) memory ++ (encoded r ++ drop (24 * n + 24) memory)) memory

-- these in front, the rest as it was
abbrev pub in_front : List ℕ → List ℕ → List ℕ
in_front bytes memory = bytes ++ drop (length bytes) memory

-- output memory or a list is too short
abbrev pub too_short : ℕ → Refusal
too_short needed = refused 41 needed

-- there is no room in lent memory for what is to be written
abbrev pub short_fault : List ℕ → List ℕ → Option Refusal
short_fault bytes memory = refuse_if (nat_lt (length memory) (length bytes)) (too_short (length bytes))

-- what is answered where these bytes are written in front of the memory: how many they are, or that it is too short
abbrev pub write_answer : List ℕ → List ℕ → Result ℕ Refusal
write_answer bytes memory = cond (nat_lt (length memory) (length bytes)) (Err (too_short (length bytes))) (Ok (length bytes))

-- and what the memory holds then: where it is too short, what it held
abbrev pub write_memory : List ℕ → List ℕ → List ℕ
write_memory bytes memory = cond (nat_lt (length memory) (length bytes)) memory (in_front bytes memory)

-- an answer, with the refusal in place of the fault
abbrev pub write_told : {X : Type 0} → Result X OutputShort → Result X Refusal
write_told (Ok x) = Ok x
write_told (Err short) = Err (too_short short.needed)
