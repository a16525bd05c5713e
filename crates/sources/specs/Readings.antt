-- What is known of a group that was read.
use Rattle.std.specs.Prelude.{◌≡◌, ℕ, ◌<◌, true, false, List, is_some, Ok, Err, Option, Result}
use Rattle.kinds.specs.Kinds.{ValueKind}
use Rattle.groups.specs.Groups.{Group, Formed}
use Rattle.reading.specs.declared.faults.GroupFault.{GroupFault}
use Rattle.records.specs.declared.record.Origin.{Origin}
use Rattle.records.specs.declared.record.Record.{Record}
use Rattle.reading.specs.Faults.{refusal_of}
use Rattle.reading.specs.Reading.{Reading, faulty, complete, summary, parcel_group}
use Rattle.sources.specs.declared.read_groups.ReadGroup.{ReadGroup}
use Rattle.sources.specs.Sources.{Countable}
use Rattle.sources.specs.Layouts.{Laid, entry_part, group_in, record_in}

-- the first records, so many entries and so many runs, are those of the group
pub record Holds (f : ℕ → Option Record) (entries runs : ℕ) (g : Group) : Type 0 where
  pub laid : Laid f entries runs
  pub same : group_in f entries runs ≡ g
  pub countable : Countable g

-- what was read in these bytes is the group under the origin, of n records, well-formed for parts of these kinds
pub record ReadAs (ks : List ValueKind) (bytes : List ℕ) (r : ReadGroup) (g : Group) (o : Origin) (n : ℕ) : Type 0 where
  pub told : Ok r.summary ≡ summary (complete g o n)
  pub in_place : r.group.records.memory.now ≡ bytes
  pub holds : Holds (record_in bytes) r.group.entries r.group.runs g
  pub formed : Formed ks g

-- the answer is the one that the reading of the bytes asks for
abbrev pub Answers : List ValueKind → List ℕ → Reading → Result ReadGroup GroupFault → Type 0
Answers ks bytes (faulty f) (Err e) = refusal_of e ≡ f
Answers ks bytes (faulty f) (Ok r) = ⊥
Answers ks bytes (complete g o n) (Err e) = ⊥
Answers ks bytes (complete g o n) (Ok r) = ReadAs ks bytes r g o n

-- whatever group the bytes are, as a parcel, for whatever kinds, it is laid out so
abbrev pub HoldsParcel : List ℕ → ℕ → ℕ → Type 0
HoldsParcel bytes entries runs = (ks : List ValueKind) (g : Group) (o : Origin) (n : ℕ) → parcel_group ks bytes ≡ complete g o n → Holds (record_in bytes) entries runs g

-- of so many records, the first n are entries, and the next one, if any, is none
pub record LeadsWith (f : ℕ → Option Record) (count n : ℕ) : Type 0 where
  pub entries : (i : ℕ) → i < n → is_some (entry_part (f i)) ≡ true
  pub then_other : n < count → is_some (entry_part (f n)) ≡ false
