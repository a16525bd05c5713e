-- What replicas, links and work stores hold, and what a call gives back.
use Rattle.std.specs.Prelude.{ℕ, ◌-◌, List, Some, None, Option, slice_index, slice_set}
use Rattle.refusals.specs.declared.Refusal.{Refusal}
use Rattle.shelves.specs.Parcels.{Sizes}
use Rattle.stores.specs.Items.{Item}
use Rattle.groups.specs.Groups.{Group}

-- a shelf: its fixed numbers, and its parcels as bytes. A link is one.
pub record Shelf : Type 0 where
  pub sizes : Sizes
  pub parcels : List (List ℕ)

-- a replica: its number, the capacities of its parts, its book, the delta shelf with the kept groups, how many steps it has made,
-- how many of them are forgotten, and what it has heard of senders 1, 2 and so on
pub record Replica : Type 0 where
  pub number : ℕ
  pub capacities : List ℕ
  pub book : Group
  pub deltas : Shelf
  pub step : ℕ
  pub forgotten : ℕ
  pub heard : List ℕ

-- a work store: the capacities of its parts, and what it holds
pub record Work : Type 0 where
  pub capacities : List ℕ
  pub items : List Item

-- the sender's step up to which everything has been taken in
abbrev pub heard_of : List ℕ → ℕ → ℕ
heard_of heard sender = slice_index heard (sender - 1)

abbrev pub hearing : List ℕ → ℕ → ℕ → List ℕ
hearing heard sender step = slice_set heard (sender - 1) step

pub data Arrival : Type 0 where
  fresh : Arrival
  old : Arrival

-- a refusal; the length of what was written; how a parcel came; how a journal's first group came, and its length; nothing more than
-- that the call was accepted; how many codes there are
pub data Answer : Type 0 where
  refusal : Refusal → Answer
  wrote : ℕ → Answer
  arrived : Arrival → Answer
  absorbed : Arrival → ℕ → Answer
  accepted : Answer
  counted : ℕ → Answer

-- what a call gives back: its answer, what becomes of the replica or link or both, and what then stands in lent memory and in the
-- work store; a call that is lent none leaves none
pub record Turn (A : Type 0) : Type 0 where
  pub answer : Answer
  pub after : A
  pub memory : List ℕ
  pub work : List Item

abbrev pub turn : {A : Type 0} → A → List ℕ → List Item → Answer → Turn A
turn after memory work answer = record { answer = answer; after = after; memory = memory; work = work }

abbrev pub refuse : {A : Type 0} → A → List ℕ → List Item → Refusal → Turn A
refuse after memory work fault = turn after memory work (refusal fault)

-- the second where there is a fault, and else the third
abbrev pub unless : {A : Type 0} → Option Refusal → (Refusal → A) → A → A
unless None stop go = go
unless (Some fault) stop go = stop fault
