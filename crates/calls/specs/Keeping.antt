-- What each call leaves as it was. That it gives one answer is plain: each is a function.
use Rattle.std.specs.Prelude.{◌≡◌, ℕ, ◌<◌, ◌≤◌, ◌⊎◌, List, [], length, Some, None, ◌≢◌}
use Rattle.std.specs.List.{slice_get}
use Rattle.refusals.specs.declared.Refusal.{Refusal}
use Rattle.causal.specs.declared.places.Place.{Place}
use Rattle.kinds.specs.Kinds.{ValueKind}
use Rattle.records.specs.Written.{in_front}
use Rattle.calls.specs.Holdings.{Shelf, Replica, Work, fresh, old, refusal, arrived, absorbed, Turn}
use Rattle.calls.specs.Edits.{edit}
use Rattle.calls.specs.Ships.{ship, ship_whole}
use Rattle.calls.specs.Arrivals.{deliver, absorb}
use Rattle.calls.specs.Links.{lose, repeat}
use Rattle.calls.specs.Reads.{forget, read}

-- what no call changes in a replica, and in a link
pub record SameReplica (x y : Replica) : Type 0 where
  pub number : y.number ≡ x.number
  pub capacities : y.capacities ≡ x.capacities
  pub sizes : y.deltas.sizes ≡ x.deltas.sizes

abbrev pub SameLink : Shelf → Shelf → Type 0
SameLink link after = after.sizes ≡ link.sizes

abbrev pub Numbered : ℕ → Refusal → Type 0
Numbered n f = f.number ≡ n

-- another's pen or bytes that are no actions: refused before anything is touched
abbrev pub Unread : Refusal → Type 0
Unread f = Numbered 39 f ⊎ Numbered 35 f

pub record EditLeaves (x : Replica) (work : Work) (output : List ℕ) (t : Turn Replica) : Type 0 where
  pub replica : (f : Refusal) → t.answer ≡ refusal f → t.after ≡ x
  pub untouched : (f : Refusal) → t.answer ≡ refusal f → Unread f → (t.memory ≡ output) × (t.work ≡ work.items)
  pub emptied : ((f : Refusal) → t.answer ≡ refusal f → Unread f → ⊥) → t.work ≡ []
  -- output is written only where the edit is accepted or the shelf refuses
  pub unwritten : (f : Refusal) → t.answer ≡ refusal f → (f.layer ≢ 1) → t.memory ≡ output
  pub as_long : length t.memory ≡ length output
  pub fixed : SameReplica x t.after
  pub heard : t.after.heard ≡ x.heard
  pub forgotten : t.after.forgotten ≡ x.forgotten

pub record ShipLeaves (link : Shelf) (work : Work) (output : List ℕ) (t : Turn Shelf) : Type 0 where
  pub unsent : (f : Refusal) → t.answer ≡ refusal f → t.after ≡ link
  pub untouched : (f : Refusal) → t.answer ≡ refusal f → Numbered 38 f → (t.memory ≡ output) × (t.work ≡ work.items)
  pub emptied : ((f : Refusal) → t.answer ≡ refusal f → Numbered 38 f → ⊥) → t.work ≡ []
  pub unwritten : (f : Refusal) → t.answer ≡ refusal f → (f.layer ≢ 1) → t.memory ≡ output
  pub as_long : length t.memory ≡ length output
  pub fixed : SameLink link t.after

pub record WholeLeaves (link : Shelf) (output : List ℕ) (t : Turn Shelf) : Type 0 where
  pub unsent : (f : Refusal) → t.answer ≡ refusal f → t.after ≡ link
  pub unwritten : (f : Refusal) → t.answer ≡ refusal f → (f.layer ≢ 1) → t.memory ≡ output
  pub as_long : length t.memory ≡ length output
  pub fixed : SameLink link t.after

pub record DeliverLeaves (x : Replica) (link : Shelf) (position : ℕ) (memory : List ℕ) (t : Turn (Replica × Shelf)) : Type 0 where
  pub both : (f : Refusal) → t.answer ≡ refusal f → t.after ≡ (x, link)
  pub replica : t.answer ≡ arrived old → t.after.0 ≡ x
  pub no_parcel : slice_get link.parcels position ≡ None → t.memory ≡ memory
  pub no_room : (parcel : List ℕ) → slice_get link.parcels position ≡ Some parcel → length memory < length parcel → t.memory ≡ memory
  -- what is refused past that, or old, stands in memory as it came
  pub as_it_came : (parcel : List ℕ) → slice_get link.parcels position ≡ Some parcel → length parcel ≤ length memory → (t.answer ≢ arrived fresh) → t.memory ≡ in_front parcel memory
  pub fixed : SameReplica x t.after.0
  pub fixed_link : SameLink link t.after.1
  pub forgotten : t.after.0.forgotten ≡ x.forgotten

pub record AbsorbLeaves (x : Replica) (t : Turn Replica) : Type 0 where
  pub replica : (f : Refusal) → t.answer ≡ refusal f → t.after ≡ x
  pub old_replica : (n : ℕ) → t.answer ≡ absorbed old n → t.after ≡ x
  pub fixed : SameReplica x t.after
  pub forgotten : t.after.forgotten ≡ x.forgotten

pub record RepeatLeaves (link : Shelf) (memory : List ℕ) (t : Turn Shelf) : Type 0 where
  pub unsent : (f : Refusal) → t.answer ≡ refusal f → t.after ≡ link
  pub as_long : length t.memory ≡ length memory
  pub fixed : SameLink link t.after

pub record CallsLeave (ks : List ValueKind) : Type 0 where
  pub edits : (x : Replica) (pen : ℕ) (bytes : List ℕ) (work : Work) (output : List ℕ) → EditLeaves x work output (edit ks x pen bytes work output)
  pub ships : (x : Replica) (since : ℕ) (work : Work) (output : List ℕ) (link : Shelf) → ShipLeaves link work output (ship ks x since work output link)
  pub ships_whole : (x : Replica) (output : List ℕ) (link : Shelf) → WholeLeaves link output (ship_whole x output link)
  pub delivers : (x : Replica) (link : Shelf) (position : ℕ) (memory : List ℕ) → DeliverLeaves x link position memory (deliver ks x link position memory)
  pub absorbs : (x : Replica) (journal memory : List ℕ) → AbsorbLeaves x (absorb ks x journal memory)
  pub loses : (link : Shelf) (position : ℕ) (f : Refusal) → (lose link position).answer ≡ refusal f → (lose link position).after ≡ link
  pub repeats : (link : Shelf) (position : ℕ) (memory : List ℕ) → RepeatLeaves link memory (repeat link position memory)
  pub forgets : (x : Replica) (t : ℕ) (f : Refusal) → (forget x t).answer ≡ refusal f → (forget x t).after ≡ x
  -- what forgetting leaves alone
  pub forgets_only : (x : Replica) (t : ℕ) → ((forget x t).after.book ≡ x.book) × ((forget x t).after.step ≡ x.step) × ((forget x t).after.heard ≡ x.heard) × SameReplica x (forget x t).after
  pub reads : (x : Replica) (part : ℕ) (place : Place) (numbers : List ℕ) → (read ks x part place numbers).after ≡ x
  pub reads_memory : (x : Replica) (part : ℕ) (place : Place) (numbers : List ℕ) (f : Refusal) → (read ks x part place numbers).answer ≡ refusal f → (read ks x part place numbers).memory ≡ numbers

-- whatever the kinds
abbrev pub CallsLeaveTheRest : Type 0
CallsLeaveTheRest = (ks : List ValueKind) → CallsLeave ks
