-- The calls deliver and absorb: a group comes to a replica under an origin.
use Rattle.std.specs.Prelude.{ℕ, ◌*◌, cond, List, [], length, take, Some, None, Option, ◌==◌, nat_le, nat_lt}
use Rattle.std.specs.List.{slice_get, remove}
use Rattle.refusals.specs.declared.Refusal.{Refusal}
use Rattle.shelves.specs.declared.fault.ShelfFault.TheVariants.{NoParcel, MemoryShort}
use Rattle.shelves.specs.Parcels.{shelf_fault, append_refusal}
use Rattle.kinds.specs.Kinds.{ValueKind}
use Rattle.stores.specs.Puts.{first_of}
use Rattle.groups.specs.Groups.{Group, joined}
use Rattle.records.specs.declared.record.Origin.{Origin}
use Rattle.reading.specs.Reading.{Reading, faulty, complete, first_group, parcel_group}
use Rattle.records.specs.Written.{written, in_front}
use Rattle.groups.specs.Limits.{book_fault, clash_fault}
use Rattle.refusals.specs.Table.{refuse_if}
use Rattle.calls.specs.Faults.{own_parcel, gap}
use Rattle.calls.specs.Holdings.{Shelf, Replica, heard_of, hearing, fresh, old, arrived, absorbed, Turn, turn, refuse, unless}
use Rattle.calls.specs.Steps.{step_fault, next_origin}
use Rattle.calls.specs.Edits.{stepped}

-- the group as the replica would keep it
abbrev pub rewritten : Replica → Group → List ℕ
rewritten x g = written g (next_origin x.number x.step)

-- what keeps a group that is not old from being taken in: a gap, no step left, a clash, the book to come, the delta shelf
abbrev pub arrival_fault : List ValueKind → Replica → Group → Origin → Option Refusal
arrival_fault ks x g o =
    let heard = heard_of x.heard o.sender in
    first_of (refuse_if (nat_lt heard o.since) (gap heard))
    (first_of (step_fault x.step 0)
    (first_of (clash_fault x.book.items 0 g.items)
    (first_of (book_fault ks x.capacities (joined ks x.book g))
    (append_refusal x.deltas.sizes x.deltas.parcels (rewritten x g)))))

-- the replica with the group taken in, and its sender heard up to until
abbrev pub taken_in : List ValueKind → Replica → Group → Origin → Replica
taken_in ks x g o = stepped ks x g (hearing x.heard o.sender o.until)

-- what becomes of a group: turned away, known already, or to be taken in
pub data Verdict : Type 0 where
  turned_away : Refusal → Verdict
  is_old : Verdict
  is_fresh : Verdict

-- the replica's own groups are turned away; what was heard already is old; else it depends on what stands against it
abbrev pub verdict : List ValueKind → Replica → Group → Origin → Verdict
verdict ks x g o =
    unless (refuse_if (o.sender == x.number) (own_parcel o.sender)) turned_away
    (cond (nat_le o.until (heard_of x.heard o.sender)) is_old
    (unless (arrival_fault ks x g o) turned_away is_fresh))

-- memory for these bytes
abbrev pub room_fault : List ℕ → List ℕ → Option Refusal
room_fault bytes memory = refuse_if (nat_lt (length memory) (length bytes)) (shelf_fault (MemoryShort (length bytes)))

-- a parcel's group, judged: the parcel leaves the link unless it is turned away
abbrev pub settled : List ValueKind → Replica → Shelf → ℕ → List ℕ → List ℕ → Group → Origin → Verdict → Turn (Replica × Shelf)
settled ks x link position parcel memory g o (turned_away fault) = refuse (x, link) (in_front parcel memory) [] fault
settled ks x link position parcel memory g o is_old =
    turn (x, record { sizes = link.sizes; parcels = remove link.parcels position }) (in_front parcel memory) [] (arrived old)
settled ks x link position parcel memory g o is_fresh =
    turn (taken_in ks x g o, record { sizes = link.sizes; parcels = remove link.parcels position }) (in_front (rewritten x g) memory) [] (arrived fresh)

-- a parcel that is read
abbrev pub unpacked : List ValueKind → Replica → Shelf → ℕ → List ℕ → List ℕ → Reading → Turn (Replica × Shelf)
unpacked ks x link position parcel memory (faulty fault) = refuse (x, link) (in_front parcel memory) [] fault
unpacked ks x link position parcel memory (complete g o n) = settled ks x link position parcel memory g o (verdict ks x g o)

-- the parcel at the position, if there is one
abbrev pub delivered : List ValueKind → Replica → Shelf → ℕ → List ℕ → Option (List ℕ) → Turn (Replica × Shelf)
delivered ks x link position memory None = refuse (x, link) memory [] (shelf_fault (NoParcel position))
delivered ks x link position memory (Some parcel) =
    unless (room_fault parcel memory) (refuse (x, link) memory []) (unpacked ks x link position parcel memory (parcel_group ks parcel))

-- deliver: link, position, memory
abbrev pub deliver : List ValueKind → Replica → Shelf → ℕ → List ℕ → Turn (Replica × Shelf)
deliver ks x link position memory = delivered ks x link position memory (slice_get link.parcels position)

-- a journal's first group, judged
abbrev pub absorbs : List ValueKind → Replica → List ℕ → List ℕ → Group → Origin → Verdict → Turn Replica
absorbs ks x first memory g o (turned_away fault) = refuse x (in_front first memory) [] fault
absorbs ks x first memory g o is_old = turn x (in_front first memory) [] (absorbed old (length first))
absorbs ks x first memory g o is_fresh = turn (taken_in ks x g o) (in_front (rewritten x g) memory) [] (absorbed fresh (length first))

-- a journal's first group of n records, once it is read
abbrev pub looked_at : List ValueKind → Replica → List ℕ → List ℕ → Reading → Turn Replica
looked_at ks x journal memory (faulty fault) = refuse x memory [] fault
looked_at ks x journal memory (complete g o n) =
    let first = take (24 * n) journal in
    unless (room_fault first memory) (refuse x memory []) (absorbs ks x first memory g o (verdict ks x g o))

-- absorb: a journal, memory
abbrev pub absorb : List ValueKind → Replica → List ℕ → List ℕ → Turn Replica
absorb ks x journal memory = looked_at ks x journal memory (first_group ks journal)
