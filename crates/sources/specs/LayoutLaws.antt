-- A group that was read can be read again from where its bytes lie.
use Rattle.std.specs.Prelude.{◌≡◌, ℕ, ◌^◌, ◌<◌, List, length, Some, Option}
use Rattle.std.specs.List.{slice_get}
use Rattle.kinds.specs.Kinds.{ValueKind}
use Rattle.groups.specs.Groups.{Group}
use Rattle.records.specs.declared.record.Origin.{Origin}
use Rattle.records.specs.declared.record.Record.{Record}
use Rattle.reading.specs.Reading.{complete, first_group}
use Rattle.records.specs.Records.{decoded}
use Rattle.shelves.specs.Parcels.{record_of}
use Rattle.sources.specs.Layouts.{Laid, group_in, record_in, parcel_bytes}

-- what a record of a parcel on a shelf says, if it says something
abbrev pub record_on : List (List ℕ) → ℕ → ℕ → Option Record
record_on parcels position i = decoded (record_of (slice_get parcels position) i)

-- the records are those of the group
pub record LaidAs (f : ℕ → Option Record) (g : Group) : Type 0 where
  pub laid : Laid f (length g.items) (length g.runs)
  pub same : group_in f (length g.items) (length g.runs) ≡ g

-- a group that was read is laid out in the bytes that it was read from, and on the shelf that has them, whose records are those of the parcel's bytes
pub record ReadGroupsAreLaid : Type 0 where
  pub in_bytes : (ks : List ValueKind) (bytes : List ℕ) (g : Group) (o : Origin) (n : ℕ) → length bytes < 2 ^ 64 → first_group ks bytes ≡ complete g o n → LaidAs (record_in bytes) g
  pub on_shelf : (ks : List ValueKind) (parcels : List (List ℕ)) (position : ℕ) (bytes : List ℕ) (g : Group) (o : Origin) (n : ℕ) → slice_get parcels position ≡ Some bytes → length bytes < 2 ^ 64 → first_group ks bytes ≡ complete g o n
      → LaidAs (record_on parcels position) g
  pub same_records : (parcels : List (List ℕ)) (position i : ℕ) → record_on parcels position i ≡ record_in (parcel_bytes (slice_get parcels position)) i
