-- The call edit.
use Rattle.std.specs.Prelude.{ℕ, suc, ◌+◌, not, List, [], ◌∷◌, ◌++◌, map, length, None, Option, ◌==◌}
use Rattle.refusals.specs.declared.Refusal.{Refusal}
use Rattle.shelves.specs.Parcels.{append_refusal}
use Rattle.kinds.specs.Kinds.{ValueKind}
use Rattle.stores.specs.Puts.{first_of}
use Rattle.groups.specs.Groups.{Group, empty, joined, joined_all}
use Rattle.records.specs.Written.{written, short_fault, in_front}
use Rattle.refusals.specs.Table.{refuse_if}
use Rattle.groups.specs.Limits.{joining_fault, book_fault}
use Rattle.calls.specs.Faults.{other_pen}
use Rattle.calls.specs.Holdings.{Replica, Work, Turn, turn, refuse, unless, wrote}
use Rattle.calls.specs.Steps.{step_fault, next_origin}
use Rattle.calls.specs.Actions.{Action, actions, reading_fault, code_fault, Deed, deed, deed_fault, group_of}

-- the deeds of the actions, each on the book as the earlier ones left it
abbrev pub deeds : List ValueKind → ℕ → List Action → Group → List Deed
deeds ks author [] b = []
deeds ks author (a ∷ acts) b = deed ks author a b ∷ deeds ks author acts (joined ks b (group_of (deed ks author a b)))

-- the first action, counted from n, that cannot be done
abbrev pub deeds_fault : List ValueKind → ℕ → ℕ → List Action → Group → Option Refusal
deeds_fault ks author n [] b = None
deeds_fault ks author n (a ∷ acts) b = first_of (deed_fault author n a b) (deeds_fault ks author (suc n) acts (joined ks b (group_of (deed ks author a b))))

-- the first fault in joining the groups to g in order, each result judged when it is there
abbrev pub joinings_fault : List ValueKind → List ℕ → Group → List Group → Option Refusal
joinings_fault ks capacities g [] = None
joinings_fault ks capacities g (h ∷ hs) = first_of (joining_fault ks capacities (joined ks g h)) (joinings_fault ks capacities (joined ks g h) hs)

-- the group becomes a step of the replica: it is joined to the book and kept under the origin of that step
abbrev pub stepped : List ValueKind → Replica → Group → List ℕ → Replica
stepped ks x g heard = record {
  number = x.number;
  capacities = x.capacities;
  book = joined ks x.book g;
  deltas = record { sizes = x.deltas.sizes; parcels = x.deltas.parcels ++ written g (next_origin x.number x.step) ∷ [] };
  step = x.step + 1;
  forgotten = x.forgotten;
  heard = heard;
}

-- what leaves everything as it was: another's pen, or bytes that are no actions
abbrev pub unread_fault : List ValueKind → ℕ → ℕ → List ℕ → Option Refusal
unread_fault ks number pen bytes = first_of (refuse_if (not (pen == number)) (other_pen pen)) (reading_fault ks bytes)

-- what is wrong with the actions, whatever the work store: a code, then an action that cannot be done, then the step
abbrev pub undone_fault : List ValueKind → Replica → List Action → Option Refusal
undone_fault ks x acts = first_of (code_fault ks 0 acts) (first_of (deeds_fault ks x.number 0 acts x.book) (step_fault x.step (length acts)))

-- what is wrong with the groups of the actions: their joinings, then the book to come, then the output
abbrev pub unjoined_fault : List ValueKind → Replica → List Group → List ℕ → List ℕ → List ℕ → Option Refusal
unjoined_fault ks x gs capacities bytes output =
    first_of (joinings_fault ks capacities empty gs) (first_of (book_fault ks x.capacities (joined ks x.book (joined_all ks gs))) (short_fault bytes output))

-- an edit that comes to the group g, written as these bytes, and nothing but the delta shelf against it
abbrev pub entered : List ValueKind → Replica → Group → List ℕ → List ℕ → Turn Replica
entered ks x g bytes output =
    unless (append_refusal x.deltas.sizes x.deltas.parcels bytes) (refuse x (in_front bytes output) [])
    (turn (stepped ks x g x.heard) (in_front bytes output) [] (wrote (length bytes)))

-- an edit whose actions come to these groups
abbrev pub joined_up : List ValueKind → Replica → List Group → List ℕ → List ℕ → Turn Replica
joined_up ks x gs capacities output =
    let g = joined_all ks gs in
    let bytes = written g (next_origin x.number x.step) in
    unless (unjoined_fault ks x gs capacities bytes output) (refuse x output []) (entered ks x g bytes output)

-- an edit of these actions
abbrev pub carried_out : List ValueKind → Replica → List Action → List ℕ → List ℕ → Turn Replica
carried_out ks x acts capacities output =
    unless (undone_fault ks x acts) (refuse x output []) (joined_up ks x (map group_of (deeds ks x.number acts x.book)) capacities output)

-- edit: pen, action bytes, work store, output memory
abbrev pub edit : List ValueKind → Replica → ℕ → List ℕ → Work → List ℕ → Turn Replica
edit ks x pen bytes work output =
    unless (unread_fault ks x.number pen bytes) (refuse x output work.items) (carried_out ks x (actions ks bytes) work.capacities output)
