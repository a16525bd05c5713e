-- What the law shuts out: behaviours that some would call close enough, under which it is false.
use Rattle.std.specs.Prelude.{ℕ, cond, List, [], take, Some, None, Option, ◌==◌, nat_le}
use Rattle.std.specs.List.{slice_get, remove}
use Rattle.kinds.specs.Kinds.{ValueKind}
use Rattle.shelves.specs.declared.fault.ShelfFault.TheVariants.{NoParcel}
use Rattle.shelves.specs.Parcels.{shelf_fault}
use Rattle.groups.specs.Groups.{Group}
use Rattle.records.specs.Written.{written, short_fault, in_front}
use Rattle.calls.specs.Faults.{own_parcel, other_pen, not_kept}
use Rattle.calls.specs.Holdings.{Shelf, Replica, Work, heard_of, old, arrived, Turn, turn, refuse, unless}
use Rattle.calls.specs.Steps.{origin}
use Rattle.calls.specs.Edits as edits
use Rattle.calls.specs.Ships as ships
use Rattle.calls.specs.Arrivals as arrivals
use Rattle.calls.specs.Arrivals.{Verdict, turned_away, is_old, is_fresh}
use Rattle.history.specs.Worlds.{Setting, Call, edit, ship, ship_whole, deliver, lose, repeat, forget, read, World, on_replica, on_link, on_both, called}
use Rattle.history.specs.History.{Past, Letter, takes, Machine, on_each, tells}
use Rattle.history.specs.Law.{FollowsBy, CausalBy}
use Rattle.history.specs.Examples.{site}

-- an edit, a ship and a deliver that somebody might make; the other calls go as they should
pub record Behaviour : Type 0 where
  pub edits : List ValueKind → Replica → ℕ → List ℕ → Work → List ℕ → Turn Replica
  pub ships : List ValueKind → Replica → ℕ → Work → List ℕ → Shelf → Turn Shelf
  pub delivers : List ValueKind → Replica → Shelf → ℕ → List ℕ → Turn (Replica × Shelf)

abbrev pub behaving : Behaviour → Setting → Call → World → Turn World
behaving b z (edit r pen bytes work output) w = on_replica w r.value (b.edits z.kinds (w.replicas r.value) pen bytes work output)
behaving b z (ship r since work output l) w = on_link w l (b.ships z.kinds (w.replicas r.value) since work output (w.links l))
behaving b z (ship_whole r output l) w = called z (ship_whole r output l) w
behaving b z (deliver r l position memory) w = on_both w r.value l (b.delivers z.kinds (w.replicas r.value) (w.links l) position memory)
behaving b z (lose l position) w = called z (lose l position) w
behaving b z (repeat l position memory) w = called z (repeat l position memory) w
behaving b z (forget r t) w = called z (forget r t) w
behaving b z (read r part place numbers) w = called z (read r part place numbers) w

-- as it should be
abbrev pub honest : Behaviour
honest = record { edits = edits.edit; ships = ships.ship; delivers = arrivals.deliver }

-- deliver raises heard, but joins nothing
abbrev pub book_kept : Group → Replica → Replica
book_kept b x = record { number = x.number; capacities = x.capacities; book = b; deltas = x.deltas; step = x.step; forgotten = x.forgotten; heard = x.heard }

abbrev pub nothing_joined : Group → Turn (Replica × Shelf) → Turn (Replica × Shelf)
nothing_joined b t = record { answer = t.answer; after = (book_kept b t.after.0, t.after.1); memory = t.memory; work = t.work }

abbrev pub joining_nothing : Behaviour
joining_nothing = record { edits = edits.edit; ships = ships.ship; delivers = λ ks x link position memory. nothing_joined x.book (arrivals.deliver ks x link position memory) }

-- deliver calls every parcel old
abbrev pub told_old : Replica → Shelf → ℕ → List ℕ → Option (List ℕ) → Turn (Replica × Shelf)
told_old x link position memory None = refuse (x, link) memory [] (shelf_fault (NoParcel position))
told_old x link position memory (Some parcel) = turn (x, record { sizes = link.sizes; parcels = remove link.parcels position }) (in_front parcel memory) [] (arrived old)

abbrev pub calling_all_old : Behaviour
calling_all_old = record { edits = edits.edit; ships = ships.ship; delivers = λ ks x link position memory. told_old x link position memory (slice_get link.parcels position) }

-- ship sends the whole book, whatever since is
abbrev pub shipped_whole : Replica → ℕ → Work → List ℕ → Shelf → Turn Shelf
shipped_whole x since work output link =
    let parcel = written x.book (origin x.number since x.step) in
    unless (ships.since_fault x since) (refuse link output work.items) (unless (short_fault parcel output) (refuse link output []) (ships.sent link parcel output))

abbrev pub shipping_whole : Behaviour
shipping_whole = record { edits = edits.edit; ships = λ ks. shipped_whole; delivers = arrivals.deliver }

-- edit goes by the first action only
abbrev pub editing_by_the_first : Behaviour
editing_by_the_first = record { edits = λ ks x pen bytes work output. edits.edit ks x pen (take 24 bytes) work output; ships = ships.ship; delivers = arrivals.deliver }

-- every edit, ship and deliver is refused
abbrev pub refusing_all : Behaviour
refusing_all = record {
  edits = λ ks x pen bytes work output. refuse x output work.items (other_pen pen);
  ships = λ ks x since work output link. refuse link output work.items (not_kept x.forgotten);
  delivers = λ ks x link position memory. refuse (x, link) memory [] (own_parcel x.number);
}

-- a machine that takes in every letter that is neither the replica's own nor old, past gaps too
abbrev pub leaps : ℕ → Past → Letter → Verdict
leaps q x p = cond (p.from.sender == q) (turned_away (own_parcel q)) (cond (nat_le p.from.until (heard_of x.heard p.from.sender)) is_old is_fresh)

abbrev pub leaped : Setting → ℕ → Past → List Letter → ℕ → List ℕ → Option Letter → Turn (Past × List Letter)
leaped z q x ps position memory None = refuse (x, ps) memory [] (shelf_fault (NoParcel position))
leaped z q x ps position memory (Some p) = takes z q x ps position memory p (leaps q x p)

abbrev pub over_gaps : Setting → Call → Machine → Turn Machine
over_gaps z (edit r pen bytes work output) m = tells z (edit r pen bytes work output) m
over_gaps z (ship r since work output l) m = tells z (ship r since work output l) m
over_gaps z (ship_whole r output l) m = tells z (ship_whole r output l) m
over_gaps z (deliver r l position memory) m = on_each m r.value l (leaped z r.value (m.pasts r.value) (m.posts l) position memory (slice_get (m.posts l) position))
over_gaps z (lose l position) m = tells z (lose l position) m
over_gaps z (repeat l position memory) m = tells z (repeat l position memory) m
over_gaps z (forget r t) m = tells z (forget r t) m
over_gaps z (read r part place numbers) m = tells z (read r part place numbers) m

pub record LawShutsOut : Type 0 where
  -- (a) holds where all goes as it should
  pub honest_is_in : FollowsBy site (behaving honest site)
  -- and is false of each of these
  pub joining_nothing_is_out : FollowsBy site (behaving joining_nothing site) → ⊥
  pub calling_all_old_is_out : FollowsBy site (behaving calling_all_old site) → ⊥
  pub shipping_whole_is_out : FollowsBy site (behaving shipping_whole site) → ⊥
  pub editing_by_the_first_is_out : FollowsBy site (behaving editing_by_the_first site) → ⊥
  pub refusing_all_is_out : FollowsBy site (behaving refusing_all site) → ⊥
  -- and (b) where heard is raised past a gap
  pub leaping_gaps_is_out : CausalBy site (over_gaps site) → ⊥
