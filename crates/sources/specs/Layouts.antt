-- A group laid out in records: its entries, and then its runs.
use Rattle.std.specs.Prelude.{◌≡◌, ℕ, zero, suc, ◌+◌, ◌^◌, ◌<◌, List, [], ◌∷◌, Some, None, Option}
use Rattle.causal.specs.declared.runs.Run.{Run}
use Rattle.groups.specs.Groups.{Group}
use Rattle.records.specs.declared.record.PartEntry.{PartEntry}
use Rattle.records.specs.declared.record.Record.{Record}
use Rattle.records.specs.declared.record.Record.TheVariants.{Entry as of_entry, Run as of_run, Origin as of_origin}
use Rattle.reading.specs.Reading.{item_in}
use Rattle.records.specs.Records.{decoded, record_at}
use Rattle.stores.specs.Items.{Item}
use Rattle.sources.specs.Sources.{Readable}

-- the entry that a record is
abbrev pub entry_part : Option Record → Option PartEntry
entry_part None = None
entry_part (Some (of_entry e)) = Some e
entry_part (Some (of_run r)) = None
entry_part (Some (of_origin o)) = None

-- the run that a record is
abbrev pub run_part : Option Record → Option Run
run_part None = None
run_part (Some (of_entry e)) = None
run_part (Some (of_run r)) = Some r
run_part (Some (of_origin o)) = None

abbrev pub item_then : Option PartEntry → List Item → List Item
item_then None xs = xs
item_then (Some e) xs = item_in e ∷ xs

abbrev pub run_then : Option Run → List Run → List Run
run_then None rs = rs
run_then (Some r) rs = r ∷ rs

-- the entries among n records from i on, where f gives each record
abbrev pub items_in : (ℕ → Option Record) → ℕ → ℕ → List Item
items_in f i zero = []
items_in f i (suc n) = item_then (entry_part (f i)) (items_in f (i + 1) n)

-- the runs among them
abbrev pub runs_in : (ℕ → Option Record) → ℕ → ℕ → List Run
runs_in f i zero = []
runs_in f i (suc n) = run_then (run_part (f i)) (runs_in f (i + 1) n)

-- the entries of the first records, and the runs of so many that follow
abbrev pub group_in : (ℕ → Option Record) → ℕ → ℕ → Group
group_in f entries runs = record { items = items_in f 0 entries; runs = runs_in f entries runs }

-- the first records are entries, and so many that follow are runs
pub record Laid (f : ℕ → Option Record) (entries runs : ℕ) : Type 0 where
  pub entries_first : (i : ℕ) → i < entries → (e : PartEntry) × (f i ≡ Some (of_entry e))
  pub runs_follow : (i : ℕ) → i < runs → (r : Run) × (f (entries + i) ≡ Some (of_run r))
  pub readable : Readable (group_in f entries runs)
  pub fits : entries + runs < 2 ^ 64

-- what the record with a number says, if it says something
abbrev pub record_in : List ℕ → ℕ → Option Record
record_in bytes i = decoded (record_at i bytes)

-- the bytes of a parcel, if there is one
abbrev pub parcel_bytes : Option (List ℕ) → List ℕ
parcel_bytes None = []
parcel_bytes (Some p) = p
