-- What holds of a replica as long as it is only called, whatever bytes its links and journals had.
use Rattle.std.specs.Prelude.{◌≡◌, ℕ, ◌+◌, ◌<◌, ◌≤◌, true, List, [], ◌∷◌, length, replicate, Some, slice_index}
use Rattle.std.specs.List.{slice_get, AllByRecursion}
use Rattle.causal.specs.Dots.{is_replica, last_replica}
use Rattle.kinds.specs.Kinds.{ValueKind}
use Rattle.contexts.specs.Contexts.{most_runs}
use Rattle.shelves.specs.Parcels.{Sizes}
use Rattle.stores.specs.Items.{count_part}
use Rattle.stores.specs.Sound.{FewParts}
use Rattle.groups.specs.Groups.{Group, empty, Formed}
use Rattle.records.specs.declared.record.Origin.{Origin}
use Rattle.reading.specs.SpellingLaws.{Bytes}
use Rattle.records.specs.Written.{written, Narrow, Writable}
use Rattle.calls.specs.Holdings.{Shelf, Replica, Work}
use Rattle.calls.specs.Steps.{last_step, next_origin}
use Rattle.calls.specs.Edits.{edit}
use Rattle.calls.specs.Arrivals.{deliver, absorb}
use Rattle.calls.specs.Reads.{forget}

-- the parcel is a well-formed group, written under this origin
pub record GroupUnder (ks : List ValueKind) (o : Origin) (parcel : List ℕ) : Type 0 where
  pub group : Group
  pub formed : Formed ks group
  pub writable : Writable group o
  pub bytes : parcel ≡ written group o

-- the parcels are the groups of the steps of replica r after n
abbrev pub StepsAfter : List ValueKind → ℕ → ℕ → List (List ℕ) → Type 0
StepsAfter ks r n [] = Unit {0}
StepsAfter ks r n (p ∷ ps) = GroupUnder ks (next_origin r n) p × StepsAfter ks r (n + 1) ps

pub record SoundReplica (ks : List ValueKind) (x : Replica) : Type 0 where
  pub number : is_replica x.number ≡ true
  -- the book is well-formed, can be written, and has room
  pub formed : Formed ks x.book
  pub narrow : AllByRecursion Narrow x.book.items
  pub few : length x.book.runs ≤ most_runs
  pub room : (p : ℕ) → p < length ks → count_part p x.book.items ≤ slice_index x.capacities p
  -- the kept groups are those of the steps after the forgotten ones
  pub kept : StepsAfter ks x.number x.forgotten x.deltas.parcels
  pub counted : x.forgotten + length x.deltas.parcels ≡ x.step
  pub limit : x.step ≤ last_step
  pub sixteen : length x.heard ≡ last_replica

-- a newly opened replica
abbrev pub new_replica : ℕ → List ℕ → Sizes → Replica
new_replica r capacities sizes = record { number = r; capacities = capacities; book = empty; deltas = record { sizes = sizes; parcels = [] }; step = 0; forgotten = 0; heard = replicate last_replica 0 }

pub record CallsKeepSound (ks : List ValueKind) : Type 0 where
  pub opened : (r : ℕ) (capacities : List ℕ) (sizes : Sizes) → is_replica r ≡ true → SoundReplica ks (new_replica r capacities sizes)
  pub edits : (x : Replica) (pen : ℕ) (bytes : List ℕ) (work : Work) (output : List ℕ) → SoundReplica ks x → Bytes bytes → SoundReplica ks (edit ks x pen bytes work output).after
  pub delivers : (x : Replica) (link : Shelf) (position : ℕ) (memory : List ℕ) → SoundReplica ks x → ((parcel : List ℕ) → slice_get link.parcels position ≡ Some parcel → Bytes parcel)
      → SoundReplica ks (deliver ks x link position memory).after.0
  pub absorbs : (x : Replica) (journal memory : List ℕ) → SoundReplica ks x → Bytes journal → SoundReplica ks (absorb ks x journal memory).after
  pub forgets : (x : Replica) (t : ℕ) → SoundReplica ks x → SoundReplica ks (forget x t).after

-- for all kinds of one to eight parts
abbrev pub CallsKeepReplicasSound : Type 0
CallsKeepReplicasSound = (ks : List ValueKind) → FewParts ks → CallsKeepSound ks
