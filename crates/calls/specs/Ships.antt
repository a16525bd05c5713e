-- The calls ship and ship whole.
use Rattle.std.specs.Prelude.{ℕ, ◌-◌, ◌||◌, List, [], ◌∷◌, ◌++◌, map, length, drop, Option, nat_lt}
use Rattle.refusals.specs.declared.Refusal.{Refusal}
use Rattle.shelves.specs.Parcels.{append_refusal}
use Rattle.kinds.specs.Kinds.{ValueKind}
use Rattle.stores.specs.Puts.{first_of}
use Rattle.groups.specs.Groups.{Group, empty, joined_all}
use Rattle.reading.specs.Reading.{Reading, faulty, complete, parcel_group}
use Rattle.records.specs.Written.{written, short_fault, in_front}
use Rattle.refusals.specs.Table.{refuse_if}
use Rattle.calls.specs.Faults.{not_kept}
use Rattle.calls.specs.Holdings.{Shelf, Replica, Work, Turn, turn, refuse, unless, wrote}
use Rattle.calls.specs.Steps.{origin}
use Rattle.calls.specs.Edits.{joinings_fault}

-- the parcel at the end of the shelf
abbrev pub appended : Shelf → List ℕ → Shelf
appended link parcel = record { sizes = link.sizes; parcels = link.parcels ++ parcel ∷ [] }

-- the parcel goes on the link; the output holds it even if the link does not take it
abbrev pub sent : Shelf → List ℕ → List ℕ → Turn Shelf
sent link parcel output =
    unless (append_refusal link.sizes link.parcels parcel) (refuse link (in_front parcel output) [])
    (turn (appended link parcel) (in_front parcel output) [] (wrote (length parcel)))

abbrev pub read_group : Reading → Group
read_group (faulty fault) = empty
read_group (complete g o n) = g

-- the group in a kept parcel
abbrev pub kept_group : List ValueKind → List ℕ → Group
kept_group ks parcel = read_group (parcel_group ks parcel)

-- the kept groups of the steps after since
abbrev pub kept_after : List ValueKind → Replica → ℕ → List Group
kept_after ks x since = map (kept_group ks) (drop (since - x.forgotten) x.deltas.parcels)

-- steps up to since that are not made yet, or steps after it that are forgotten
abbrev pub since_fault : Replica → ℕ → Option Refusal
since_fault x since = refuse_if (nat_lt x.step since || nat_lt since x.forgotten) (not_kept x.forgotten)

-- a ship of these groups
abbrev pub shipped : List ValueKind → Replica → ℕ → List Group → List ℕ → List ℕ → Shelf → Turn Shelf
shipped ks x since gs capacities output link =
    let parcel = written (joined_all ks gs) (origin x.number since x.step) in
    unless (first_of (joinings_fault ks capacities empty gs) (short_fault parcel output)) (refuse link output []) (sent link parcel output)

-- ship: since, work store, output memory, link
abbrev pub ship : List ValueKind → Replica → ℕ → Work → List ℕ → Shelf → Turn Shelf
ship ks x since work output link =
    unless (since_fault x since) (refuse link output work.items) (shipped ks x since (kept_after ks x since) work.capacities output link)

-- ship whole: output memory, link; no work store is lent
abbrev pub ship_whole : Replica → List ℕ → Shelf → Turn Shelf
ship_whole x output link =
    let parcel = written x.book (origin x.number 0 x.step) in
    unless (short_fault parcel output) (refuse link output []) (sent link parcel output)
