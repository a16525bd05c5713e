-- Actions: how they are read from bytes, and what one does to a given book.
use Rattle.std.specs.Prelude.{ℕ, zero, suc, ◌+◌, ◌/◌, ◌%◌, Bool, false, cond, not, ◌&&◌, List, [], ◌∷◌, ◌++◌, map, length, take, drop, Some, None, filter, Option, ◌==◌, nat_le, nat_lt}
use Rattle.std.specs.List.{slice_get}
use Rattle.refusals.specs.declared.Refusal.{Refusal}
use Rattle.causal.specs.declared.dots.Dot.{Dot}
use Rattle.causal.specs.declared.places.Place.{Place}
use Rattle.causal.specs.declared.runs.Run.{Run}
use Rattle.causal.specs.Dots.{last_counter}
use Rattle.causal.specs.Places.{is_place, depth_of, same_place, is_under}
use Rattle.kinds.specs.Kinds.{ValueKind}
use Rattle.causal.specs.Runs.{insert, highest, dot, single}
use Rattle.stores.specs.Items.{Item, in_part, recode}
use Rattle.stores.specs.Puts.{fits_part, first_of}
use Rattle.groups.specs.Groups.{Group, join_codes}
use Rattle.records.specs.declared.fields.Fields.{Fields}
use Rattle.reading.specs.Faults.{bad_code}
use Rattle.records.specs.Fields.{fields_of}
use Rattle.reading.specs.Reading.{is_empty, dots_of}
use Rattle.refusals.specs.Table.{refuse_if}
use Rattle.calls.specs.Faults.{bad_action, nothing_there, used_up}

-- each names a part and a place; set and amend give a code
pub data Action : Type 0 where
  set : ℕ → Place → ℕ → Action
  clear : ℕ → Place → Action
  amend : ℕ → Place → ℕ → Action

-- the place is not the one of depth 0
abbrev pub has_key : Place → Bool
has_key l = nat_le 1 (depth_of l)

-- bytes 2 to 7 are 0, the part is there, and the keys are a place
abbrev pub is_action : List ValueKind → Fields → Bool
is_action ks f = f.replica == 0 && (f.spare == 0 && (f.low == 0 && (f.high == 0 && (nat_lt f.part (length ks) && is_place f.place))))

-- 5 set, 6 clear, 7 amend; a clear may be at depth 0 and has the code 0
abbrev pub action_by_tag : Fields → Option Action
action_by_tag f =
    cond (f.tag == 5 && has_key f.place) (Some (set f.part f.place f.code))
    (cond (f.tag == 6 && f.code == 0) (Some (clear f.part f.place))
    (cond (f.tag == 7 && has_key f.place) (Some (amend f.part f.place f.code)) None))

-- the action in 24 bytes; none where it is a bad one
abbrev pub action_in : List ValueKind → List ℕ → Option Action
action_in ks bytes = cond (is_action ks (fields_of bytes)) (action_by_tag (fields_of bytes)) None

-- so many records of 24 bytes, one after another
abbrev pub pieces : ℕ → List ℕ → List (List ℕ)
pieces zero bytes = []
pieces (suc n) bytes = take 24 bytes ∷ pieces n (drop 24 bytes)

abbrev pub readings : List ValueKind → List ℕ → List (Option Action)
readings ks bytes = map (action_in ks) (pieces (length bytes / 24) bytes)

-- those that could be read
abbrev pub understood : List (Option Action) → List Action
understood [] = []
understood (None ∷ os) = understood os
understood (Some a ∷ os) = a ∷ understood os

abbrev pub actions : List ValueKind → List ℕ → List Action
actions ks bytes = understood (readings ks bytes)

-- an edit has this many actions at most
abbrev pub most_actions : ℕ
most_actions = 8

-- whole records, one at least and eight at most
abbrev pub is_list : ℕ → Bool
is_list bytes = bytes % 24 == 0 && (nat_le 1 (bytes / 24) && nat_le (bytes / 24) most_actions)

-- the first bad action, counted from n
abbrev pub first_bad : ℕ → List (Option Action) → Option Refusal
first_bad n [] = None
first_bad n (None ∷ os) = Some (bad_action n)
first_bad n (Some a ∷ os) = first_bad (suc n) os

-- what is wrong with the bytes of an edit: their length, then the first bad action
abbrev pub reading_fault : List ValueKind → List ℕ → Option Refusal
reading_fault ks bytes = first_of (refuse_if (not (is_list (length bytes))) (bad_action (length bytes / 24))) (first_bad 0 (readings ks bytes))

-- the code is not of its part's kind; a clear has none
abbrev pub is_unfit : List ValueKind → Action → Bool
is_unfit ks (set p l c) = not (fits_part ks p c)
is_unfit ks (clear p l) = false
is_unfit ks (amend p l c) = not (fits_part ks p c)

-- the first action, counted from n, whose code does not fit
abbrev pub code_fault : List ValueKind → ℕ → List Action → Option Refusal
code_fault ks n [] = None
code_fault ks n (a ∷ acts) = cond (is_unfit ks a) (Some (bad_code n)) (code_fault ks (suc n) acts)

-- what an action does: items put, in order, and dots struck
pub record Deed : Type 0 where
  pub puts : List Item
  pub strikes : List Dot

-- an item of the part exactly at the place, and one under it
abbrev pub is_at : ℕ → Place → Item → Bool
is_at p l x = in_part p x && same_place x.place l

abbrev pub lies_under : ℕ → Place → Item → Bool
lies_under p l x = in_part p x && is_under x.place l

-- what the book has exactly at a place of a part
abbrev pub standing : Group → ℕ → Place → List Item
standing b p l = filter (is_at p l) b.items

-- the author's next dot: one above its highest counter that is known
abbrev pub next_dot : ℕ → Group → Dot
next_dot author b = dot author (highest author b.runs + 1)

-- the item put again, its code joined with another
abbrev pub amended : List ValueKind → ℕ → Item → Item
amended ks c x = recode x (join_codes (slice_get ks x.part) x.code c)

-- what an action of this author does to a book: set strikes what is at the place and puts the code under the next dot, clear strikes
-- what lies under the place, amend puts what is at the place again
abbrev pub deed : List ValueKind → ℕ → Action → Group → Deed
deed ks author (set p l c) b = record { puts = record { part = p; place = l; dot = next_dot author b; code = c } ∷ []; strikes = dots_of (standing b p l) }
deed ks author (clear p l) b = record { puts = []; strikes = dots_of (filter (lies_under p l) b.items) }
deed ks author (amend p l c) b = record { puts = map (amended ks c) (standing b p l); strikes = [] }

-- what keeps the action n from being done: no counter is left, or there is nothing to amend
abbrev pub deed_fault : ℕ → ℕ → Action → Group → Option Refusal
deed_fault author n (set p l c) b = refuse_if (nat_le last_counter (highest author b.runs)) (used_up n)
deed_fault author n (clear p l) b = None
deed_fault author n (amend p l c) b = refuse_if (is_empty (standing b p l)) (nothing_there n)

-- the runs of some dots
abbrev pub runs_for : List Dot → List Run
runs_for [] = []
runs_for (d ∷ ds) = insert (single d) (runs_for ds)

-- the group of an action: the items put, and all dots put or struck
abbrev pub group_of : Deed → Group
group_of d = record { items = d.puts; runs = runs_for (dots_of d.puts ++ d.strikes) }
