-- Replicas under the numbers 1 to 16, any number of links, and lists of calls.
use Rattle.std.specs.Prelude.{◌≡◌, ℕ, ◌<◌, true, cond, List, [], ◌∷◌, replicate, ◌==◌}
use Rattle.std.specs.List.{AllByRecursion}
use Rattle.causal.specs.declared.places.Place.{Place}
use Rattle.causal.specs.Dots.{is_replica, last_replica}
use Rattle.kinds.specs.Kinds.{ValueKind}
use Rattle.shelves.specs.Parcels.{Sizes}
use Rattle.groups.specs.Groups.{empty}
use Rattle.calls.specs.Holdings.{Shelf, Replica, Work, Turn}
use Rattle.calls.specs.Edits as edits
use Rattle.calls.specs.Ships as ships
use Rattle.calls.specs.Arrivals as arrivals
use Rattle.calls.specs.Links as links
use Rattle.calls.specs.Reads as reads

-- a number that was checked
pub record Number : Type 0 where
  pub value : ℕ
  pub checked : is_replica value ≡ true

-- what a run is set up with: the kinds of the parts, which all replicas share, and of each replica its capacities and its delta shelf,
-- of each link its shelf, by their numbers
pub record Setting : Type 0 where
  pub kinds : List ValueKind
  pub capacities : ℕ → List ℕ
  pub deltas : ℕ → Sizes
  pub links : ℕ → Sizes

-- the eight calls with their arguments. Replicas are named by their numbers and so are links; work stores and lent memory are arguments.
pub data Call : Type 0 where
  -- replica, pen, action bytes, work store, output
  edit : Number → ℕ → List ℕ → Work → List ℕ → Call
  -- replica, since, work store, output, link
  ship : Number → ℕ → Work → List ℕ → ℕ → Call
  -- replica, output, link
  ship_whole : Number → List ℕ → ℕ → Call
  -- replica, link, position, memory
  deliver : Number → ℕ → ℕ → List ℕ → Call
  -- link, position
  lose : ℕ → ℕ → Call
  -- link, position, memory
  repeat : ℕ → ℕ → List ℕ → Call
  -- replica, step
  forget : Number → ℕ → Call
  -- replica, part, place, numbers
  read : Number → ℕ → Place → List ℕ → Call

-- action bytes are bytes
abbrev pub Bytewise : Call → Type 0
Bytewise (edit r pen bytes work output) = AllByRecursion (λ b. b < 256) bytes
Bytewise (ship r since work output l) = Unit {0}
Bytewise (ship_whole r output l) = Unit {0}
Bytewise (deliver r l position memory) = Unit {0}
Bytewise (lose l position) = Unit {0}
Bytewise (repeat l position memory) = Unit {0}
Bytewise (forget r t) = Unit {0}
Bytewise (read r part place numbers) = Unit {0}

-- the replica of each number, and each link; a run of fewer replicas and links calls fewer, and the others stay as they are
pub record World : Type 0 where
  pub replicas : ℕ → Replica
  pub links : ℕ → Shelf

-- f, but x at i
abbrev pub changed : {A : Type 0} → (ℕ → A) → ℕ → A → ℕ → A
changed f i x j = cond (i == j) x (f j)

-- the turns of a list of calls, each by `step` on what the earlier ones left, and the world after them
abbrev pub traced : (Call → World → Turn World) → World → List Call → List (Turn World)
traced step w [] = []
traced step w (k ∷ ks) = step k w ∷ traced step (step k w).after ks

abbrev pub ran : (Call → World → Turn World) → World → List Call → World
ran step w [] = w
ran step w (k ∷ ks) = ran step (step k w).after ks

-- what a call on one replica, one link or both is to the world
abbrev pub on_replica : World → ℕ → Turn Replica → Turn World
on_replica w r t = record { answer = t.answer; after = record { replicas = changed w.replicas r t.after; links = w.links }; memory = t.memory; work = t.work }

abbrev pub on_link : World → ℕ → Turn Shelf → Turn World
on_link w l t = record { answer = t.answer; after = record { replicas = w.replicas; links = changed w.links l t.after }; memory = t.memory; work = t.work }

abbrev pub on_both : World → ℕ → ℕ → Turn (Replica × Shelf) → Turn World
on_both w r l t = record {
  answer = t.answer;
  after = record { replicas = changed w.replicas r t.after.0; links = changed w.links l t.after.1 };
  memory = t.memory;
  work = t.work;
}

module _ (z : Setting) where
  abbrev pub called : Call → World → Turn World
  called (edit r pen bytes work output) w = on_replica w r.value (edits.edit z.kinds (w.replicas r.value) pen bytes work output)
  called (ship r since work output l) w = on_link w l (ships.ship z.kinds (w.replicas r.value) since work output (w.links l))
  called (ship_whole r output l) w = on_link w l (ships.ship_whole (w.replicas r.value) output (w.links l))
  called (deliver r l position memory) w = on_both w r.value l (arrivals.deliver z.kinds (w.replicas r.value) (w.links l) position memory)
  called (lose l position) w = on_link w l (links.lose (w.links l) position)
  called (repeat l position memory) w = on_link w l (links.repeat (w.links l) position memory)
  called (forget r t) w = on_replica w r.value (reads.forget (w.replicas r.value) t)
  called (read r part place numbers) w = on_replica w r.value (reads.read z.kinds (w.replicas r.value) part place numbers)

  -- newly opened replicas, and empty links
  abbrev pub opened : World
  opened = record {
    replicas = λ r. record { number = r; capacities = z.capacities r; book = empty; deltas = record { sizes = z.deltas r; parcels = [] }; step = 0; forgotten = 0; heard = replicate last_replica 0 };
    links = λ l. record { sizes = z.links l; parcels = [] };
  }

  abbrev pub trace : World → List Call → List (Turn World)
  trace w ks = traced called w ks

  abbrev pub run : World → List Call → World
  run w ks = ran called w ks
