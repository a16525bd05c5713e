-- The history machine: it knows sets of edits, and no groups are joined in it. With the replicas it shares how actions are read and
-- what one does to a given book, what has a limit, and what is written.
use Rattle.std.specs.Prelude.{ℕ, suc, ◌+◌, ◌-◌, max, cond, not, ◌||◌, List, [], ◌∷◌, ◌++◌, map, length, drop, replicate, Some, None, Option, ◌==◌, nat_le, nat_lt}
use Rattle.std.specs.List.{slice_get, remove}
use Rattle.refusals.specs.declared.Refusal.{Refusal}
use Rattle.causal.specs.declared.dots.Dot.{Dot}
use Rattle.causal.specs.declared.places.Place.{Place}
use Rattle.causal.specs.Dots.{last_replica}
use Rattle.shelves.specs.declared.fault.ShelfFault.TheVariants.{NoParcel}
use Rattle.shelves.specs.Parcels.{shelf_fault, append_refusal}
use Rattle.stores.specs.Faults.{bad_address}
use Rattle.stores.specs.Items.{Item}
use Rattle.stores.specs.Puts.{first_of}
use Rattle.groups.specs.Groups.{Group}
use Rattle.records.specs.declared.record.Origin.{Origin}
use Rattle.records.specs.Written.{written, short_fault, in_front}
use Rattle.refusals.specs.Table.{refuse_if}
use Rattle.groups.specs.Limits.{joining_fault, book_fault, clash_fault}
use Rattle.calls.specs.Faults.{own_parcel, gap, not_kept}
use Rattle.calls.specs.Holdings.{Work, heard_of, hearing, fresh, old, wrote, arrived, accepted, Turn, turn, refuse, unless}
use Rattle.calls.specs.Steps.{step_fault, origin, next_origin}
use Rattle.calls.specs.Actions.{Action, actions, code_fault, Deed, deed, deed_fault}
use Rattle.calls.specs.Edits.{unread_fault}
use Rattle.calls.specs.Arrivals.{room_fault, Verdict, turned_away, is_old, is_fresh}
use Rattle.calls.specs.Reads.{is_readable, shown_at}
use Rattle.history.specs.Books.{book_of}
use Rattle.history.specs.Worlds.{Setting, Call, edit, ship, ship_whole, deliver, lose, repeat, forget, read, changed}

-- an edit is named by its author and the author's step
pub record Name : Type 0 where
  pub author : ℕ
  pub step : ℕ

-- past: the names of the edits that the author had seen
pub record Edit : Type 0 where
  pub name : Name
  pub puts : List Item
  pub strikes : List Dot
  pub past : List Name

-- a set of edits, as a list in which order and repetition say nothing
abbrev pub Edits : Type 0
Edits = List Edit

abbrev pub names : Edits → List Name
names [] = []
names (e ∷ es) = e.name ∷ names es

-- all that the edits put, all that they strike
abbrev pub put_by : Edits → List Item
put_by [] = []
put_by (e ∷ es) = e.puts ++ put_by es

abbrev pub struck_by : Edits → List Dot
struck_by [] = []
struck_by (e ∷ es) = e.strikes ++ struck_by es

-- the same of the deeds of one edit
abbrev pub puts_of : List Deed → List Item
puts_of [] = []
puts_of (d ∷ ds) = d.puts ++ puts_of ds

abbrev pub strikes_of : List Deed → List Dot
strikes_of [] = []
strikes_of (d ∷ ds) = d.strikes ++ strikes_of ds

abbrev pub all_of : List Edits → Edits
all_of [] = []
all_of (d ∷ ds) = d ++ all_of ds

-- of a replica: the edits it has seen, its step, the forgotten steps, the heard numbers, and the sets that came with the steps after the
-- forgotten ones
pub record Past : Type 0 where
  pub seen : Edits
  pub step : ℕ
  pub forgotten : ℕ
  pub heard : List ℕ
  pub kept : List Edits

-- what travels: a set of edits under an origin
pub record Letter : Type 0 where
  pub from : Origin
  pub content : Edits

-- a set comes to be seen, as the next step
abbrev pub grown : Past → Edits → List ℕ → Past
grown x d heard = record { seen = x.seen ++ d; step = x.step + 1; forgotten = x.forgotten; heard = heard; kept = x.kept ++ d ∷ [] }

-- the edit that these deeds of replica r are
abbrev pub made : ℕ → Past → List Deed → Edit
made r x ds = record { name = record { author = r; step = x.step + 1 }; puts = puts_of ds; strikes = strikes_of ds; past = names x.seen }

module _ (z : Setting) where
  abbrev pub book : Edits → Group
  book es = book_of z.kinds (put_by es) (struck_by es)

  -- written forms: of a letter, and of the sets that came to replica r with the steps after n
  abbrev pub letter_bytes : Letter → List ℕ
  letter_bytes p = written (book p.content) p.from

  abbrev pub kept_bytes : ℕ → ℕ → List Edits → List (List ℕ)
  kept_bytes r n [] = []
  kept_bytes r n (d ∷ ds) = written (book d) (next_origin r n) ∷ kept_bytes r (n + 1) ds

  -- edit

  -- the deeds of the actions of r, each on the book of all that was put and struck before it
  abbrev pub planned : ℕ → List Action → List Item → List Dot → List Deed
  planned r [] ps ss = []
  planned r (a ∷ acts) ps ss = let d = deed z.kinds r a (book_of z.kinds ps ss) in d ∷ planned r acts (ps ++ d.puts) (ss ++ d.strikes)

  abbrev pub planned_fault : ℕ → ℕ → List Action → List Item → List Dot → Option Refusal
  planned_fault r n [] ps ss = None
  planned_fault r n (a ∷ acts) ps ss =
      let b = book_of z.kinds ps ss in
      let d = deed z.kinds r a b in
      first_of (deed_fault r n a b) (planned_fault r (suc n) acts (ps ++ d.puts) (ss ++ d.strikes))

  -- the first fault of what the deeds come to, one after another
  abbrev pub doing_fault : List ℕ → List Item → List Dot → List Deed → Option Refusal
  doing_fault capacities ps ss [] = None
  doing_fault capacities ps ss (d ∷ ds) =
      first_of (joining_fault z.kinds capacities (book_of z.kinds (ps ++ d.puts) (ss ++ d.strikes))) (doing_fault capacities (ps ++ d.puts) (ss ++ d.strikes) ds)

  -- the set d, written as these bytes, becomes a step of replica r if the delta shelf takes it
  abbrev pub notes : ℕ → Past → Edits → List ℕ → List ℕ → Turn Past
  notes r x d bytes output =
      unless (append_refusal (z.deltas r) (kept_bytes r x.forgotten x.kept) bytes) (refuse x (in_front bytes output) [])
      (turn (grown x d x.heard) (in_front bytes output) [] (wrote (length bytes)))

  -- what is wrong with the deeds: one after another, then the book to come, then the output
  abbrev pub enters_fault : ℕ → Past → List Deed → Edits → List ℕ → List ℕ → List ℕ → Option Refusal
  enters_fault r x ds d capacities bytes output =
      first_of (doing_fault capacities [] [] ds) (first_of (book_fault z.kinds (z.capacities r) (book (x.seen ++ d))) (short_fault bytes output))

  abbrev pub enters : ℕ → Past → List Deed → List ℕ → List ℕ → Turn Past
  enters r x ds capacities output =
      let d = made r x ds ∷ [] in
      let bytes = written (book d) (next_origin r x.step) in
      unless (enters_fault r x ds d capacities bytes output) (refuse x output []) (notes r x d bytes output)

  abbrev pub plans_fault : ℕ → Past → List Action → Option Refusal
  plans_fault r x acts = first_of (code_fault z.kinds 0 acts) (first_of (planned_fault r 0 acts (put_by x.seen) (struck_by x.seen)) (step_fault x.step (length acts)))

  abbrev pub carries_out : ℕ → Past → List Action → List ℕ → List ℕ → Turn Past
  carries_out r x acts capacities output = unless (plans_fault r x acts) (refuse x output []) (enters r x (planned r acts (put_by x.seen) (struck_by x.seen)) capacities output)

  abbrev pub edits : ℕ → Past → ℕ → List ℕ → Work → List ℕ → Turn Past
  edits r x pen bytes work output =
      unless (unread_fault z.kinds r pen bytes) (refuse x output work.items) (carries_out r x (actions z.kinds bytes) work.capacities output)

  -- ship

  -- the first fault of the growing unions of es with the sets
  abbrev pub uniting_fault : List ℕ → Edits → List Edits → Option Refusal
  uniting_fault capacities es [] = None
  uniting_fault capacities es (d ∷ ds) = first_of (joining_fault z.kinds capacities (book (es ++ d))) (uniting_fault capacities (es ++ d) ds)

  -- a letter goes on the link l, if that takes it
  abbrev pub posts : ℕ → List Letter → Letter → List ℕ → Turn (List Letter)
  posts l ps p output =
      unless (append_refusal (z.links l) (map letter_bytes ps) (letter_bytes p)) (refuse ps (in_front (letter_bytes p) output) [])
      (turn (ps ++ p ∷ []) (in_front (letter_bytes p) output) [] (wrote (length (letter_bytes p))))

  -- the sets of the steps after since, in one letter
  abbrev pub collects : ℕ → Past → ℕ → List Edits → List ℕ → List ℕ → ℕ → List Letter → Turn (List Letter)
  collects r x since ds capacities output l ps =
      let p : Letter = record { from = origin r since x.step; content = all_of ds } in
      unless (first_of (uniting_fault capacities [] ds) (short_fault (letter_bytes p) output)) (refuse ps output []) (posts l ps p output)

  abbrev pub ships : ℕ → Past → ℕ → Work → List ℕ → ℕ → List Letter → Turn (List Letter)
  ships r x since work output l ps =
      unless (refuse_if (nat_lt x.step since || nat_lt since x.forgotten) (not_kept x.forgotten)) (refuse ps output work.items)
      (collects r x since (drop (since - x.forgotten) x.kept) work.capacities output l ps)

  abbrev pub ships_whole : ℕ → Past → List ℕ → ℕ → List Letter → Turn (List Letter)
  ships_whole r x output l ps =
      let p : Letter = record { from = origin r 0 x.step; content = x.seen } in
      unless (short_fault (letter_bytes p) output) (refuse ps output []) (posts l ps p output)

  -- deliver

  -- what keeps a letter that is not old from being taken in by replica q
  abbrev pub takes_fault : ℕ → Past → Letter → Option Refusal
  takes_fault q x p =
      let h = heard_of x.heard p.from.sender in
      first_of (refuse_if (nat_lt h p.from.since) (gap h))
      (first_of (step_fault x.step 0)
      (first_of (clash_fault (book x.seen).items 0 (book p.content).items)
      (first_of (book_fault z.kinds (z.capacities q) (book (x.seen ++ p.content)))
      (append_refusal (z.deltas q) (kept_bytes q x.forgotten x.kept) (written (book p.content) (next_origin q x.step))))))

  abbrev pub judges : ℕ → Past → Letter → Verdict
  judges q x p =
      unless (refuse_if (p.from.sender == q) (own_parcel p.from.sender)) turned_away
      (cond (nat_le p.from.until (heard_of x.heard p.from.sender)) is_old
      (unless (takes_fault q x p) turned_away is_fresh))

  abbrev pub takes : ℕ → Past → List Letter → ℕ → List ℕ → Letter → Verdict → Turn (Past × List Letter)
  takes q x ps position memory p (turned_away fault) = refuse (x, ps) (in_front (letter_bytes p) memory) [] fault
  takes q x ps position memory p is_old = turn (x, remove ps position) (in_front (letter_bytes p) memory) [] (arrived old)
  takes q x ps position memory p is_fresh =
      turn (grown x p.content (hearing x.heard p.from.sender p.from.until), remove ps position)
      (in_front (written (book p.content) (next_origin q x.step)) memory) [] (arrived fresh)

  abbrev pub delivers : ℕ → Past → List Letter → ℕ → List ℕ → Option Letter → Turn (Past × List Letter)
  delivers q x ps position memory None = refuse (x, ps) memory [] (shelf_fault (NoParcel position))
  delivers q x ps position memory (Some p) =
      unless (room_fault (letter_bytes p) memory) (refuse (x, ps) memory []) (takes q x ps position memory p (judges q x p))

  -- lose, repeat, forget, read

  abbrev pub loses : List Letter → ℕ → Option Letter → Turn (List Letter)
  loses ps position None = refuse ps [] [] (shelf_fault (NoParcel position))
  loses ps position (Some p) = turn (remove ps position) [] [] accepted

  abbrev pub repeats : ℕ → List Letter → ℕ → List ℕ → Option Letter → Turn (List Letter)
  repeats l ps position memory None = refuse ps memory [] (shelf_fault (NoParcel position))
  repeats l ps position memory (Some p) =
      unless (room_fault (letter_bytes p) memory) (refuse ps memory [])
      (unless (append_refusal (z.links l) (map letter_bytes ps) (letter_bytes p)) (refuse ps (in_front (letter_bytes p) memory) [])
      (turn (ps ++ p ∷ []) (in_front (letter_bytes p) memory) [] accepted))

  abbrev pub forgets : Past → ℕ → Turn Past
  forgets x t =
      unless (refuse_if (nat_lt x.step t) (not_kept x.forgotten)) (refuse x [] [])
      (turn (record { seen = x.seen; step = x.step; forgotten = max x.forgotten t; heard = x.heard; kept = drop (t - x.forgotten) x.kept }) [] [] accepted)

  abbrev pub reads : Past → ℕ → Place → List ℕ → Turn Past
  reads x part place numbers =
      unless (refuse_if (not (is_readable z.kinds part place)) bad_address) (refuse x numbers []) (shown_at x (book x.seen) part place numbers)

-- all replicas and links
pub record Machine : Type 0 where
  pub pasts : ℕ → Past
  pub posts : ℕ → List Letter

-- the machine after a list of calls, each told by `step`
abbrev pub told : (Call → Machine → Turn Machine) → Machine → List Call → Machine
told step m [] = m
told step m (k ∷ ks) = told step (step k m).after ks

abbrev pub on_past : Machine → ℕ → Turn Past → Turn Machine
on_past m r t = record { answer = t.answer; after = record { pasts = changed m.pasts r t.after; posts = m.posts }; memory = t.memory; work = t.work }

abbrev pub on_post : Machine → ℕ → Turn (List Letter) → Turn Machine
on_post m l t = record { answer = t.answer; after = record { pasts = m.pasts; posts = changed m.posts l t.after }; memory = t.memory; work = t.work }

abbrev pub on_each : Machine → ℕ → ℕ → Turn (Past × List Letter) → Turn Machine
on_each m r l t = record {
  answer = t.answer;
  after = record { pasts = changed m.pasts r t.after.0; posts = changed m.posts l t.after.1 };
  memory = t.memory;
  work = t.work;
}

module _ (z : Setting) where
  abbrev pub tells : Call → Machine → Turn Machine
  tells (edit r pen bytes work output) m = on_past m r.value (edits z r.value (m.pasts r.value) pen bytes work output)
  tells (ship r since work output l) m = on_post m l (ships z r.value (m.pasts r.value) since work output l (m.posts l))
  tells (ship_whole r output l) m = on_post m l (ships_whole z r.value (m.pasts r.value) output l (m.posts l))
  tells (deliver r l position memory) m = on_each m r.value l (delivers z r.value (m.pasts r.value) (m.posts l) position memory (slice_get (m.posts l) position))
  tells (lose l position) m = on_post m l (loses z (m.posts l) position (slice_get (m.posts l) position))
  tells (repeat l position memory) m = on_post m l (repeats z l (m.posts l) position memory (slice_get (m.posts l) position))
  tells (forget r t) m = on_past m r.value (forgets z (m.pasts r.value) t)
  tells (read r part place numbers) m = on_past m r.value (reads z (m.pasts r.value) part place numbers)

  -- nothing seen, and nothing on the way
  abbrev pub blank : Machine
  blank = record { pasts = λ r. record { seen = []; step = 0; forgotten = 0; heard = replicate last_replica 0; kept = [] }; posts = λ l. [] }

  -- the turns of a list of calls, and the machine after them
  abbrev pub tale : Machine → List Call → List (Turn Machine)
  tale m [] = []
  tale m (k ∷ ks) = tells k m ∷ tale (tells k m).after ks

  abbrev pub history : Machine → List Call → Machine
  history m ks = told tells m ks
