-- Every group has one spelling.
use Rattle.std.specs.Prelude.{◌≡◌, ℕ, ◌*◌, ◌<◌, List, ◌++◌, take}
use Rattle.std.specs.List.{AllByRecursion}
use Rattle.kinds.specs.Kinds.{ValueKind}
use Rattle.groups.specs.Groups.{Group, Formed}
use Rattle.records.specs.declared.record.Origin.{Origin}
use Rattle.reading.specs.Reading.{complete, first_group, parcel_group}
use Rattle.records.specs.Written.{written, record_count, Writable}

-- bytes, as numbers
abbrev pub Bytes : List ℕ → Type 0
Bytes bytes = AllByRecursion (λ b. b < 256) bytes

pub record OneSpelling (ks : List ValueKind) : Type 0 where
  -- what is written is read back, whatever follows it
  pub read_back : (g : Group) (o : Origin) (rest : List ℕ) → Formed ks g → Writable g o → first_group ks (written g o ++ rest) ≡ complete g o (record_count g)
  pub parcel_back : (g : Group) (o : Origin) → Formed ks g → Writable g o → parcel_group ks (written g o) ≡ complete g o (record_count g)
  -- what is read is written again as the same bytes
  pub same_bytes : (bytes : List ℕ) (g : Group) (o : Origin) (n : ℕ) → Bytes bytes → first_group ks bytes ≡ complete g o n → take (24 * n) bytes ≡ written g o
  pub as_many : (bytes : List ℕ) (g : Group) (o : Origin) (n : ℕ) → Bytes bytes → first_group ks bytes ≡ complete g o n → n ≡ record_count g
  -- what is read is a well-formed group, and could have been written
  pub formed : (bytes : List ℕ) (g : Group) (o : Origin) (n : ℕ) → Bytes bytes → first_group ks bytes ≡ complete g o n → Formed ks g
  pub writable : (bytes : List ℕ) (g : Group) (o : Origin) (n : ℕ) → Bytes bytes → first_group ks bytes ≡ complete g o n → Writable g o
  -- what follows a journal's first group does not matter to it
  pub rest_unseen : (bytes rest : List ℕ) (g : Group) (o : Origin) (n : ℕ) → Bytes bytes → first_group ks bytes ≡ complete g o n → first_group ks (take (24 * n) bytes ++ rest) ≡ complete g o n

-- for every list of kinds
abbrev pub GroupsHaveOneSpelling : Type 0
GroupsHaveOneSpelling = (ks : List ValueKind) → OneSpelling ks
