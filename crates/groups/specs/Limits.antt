-- What stands against a join: a part that its outcome overfills, too many runs in it, and a dot that stands elsewhere.
use Rattle.std.specs.Prelude.{ℕ, zero, suc, Bool, false, cond, not, List, [], ◌∷◌, length, Some, None, Option, nat_lt, slice_index}
use Rattle.refusals.specs.declared.Refusal.{Refusal}
use Rattle.refusals.specs.Table.{refused, refuse_if}
use Rattle.kinds.specs.Kinds.{ValueKind}
use Rattle.contexts.specs.Contexts.{too_many}
use Rattle.stores.specs.Faults.{part_full}
use Rattle.stores.specs.Items.{Item, find, count_part}
use Rattle.stores.specs.Puts.{first_of}
use Rattle.groups.specs.Groups.{Group, one_spot}

-- over 96 runs in the result of a joining from empty (0) or in the book (1)
abbrev pub too_many_runs : ℕ → Refusal
too_many_runs which = refused 34 which

-- a part of the work store is too small
abbrev pub work_full : ℕ → Refusal
work_full part = refused 40 part

-- a dot of the group stands elsewhere in the book
abbrev pub stands_elsewhere : ℕ → Refusal
stands_elsewhere record_number = refused 44 record_number

-- the lowest part, of so many from p on, that has more items than its capacity
abbrev pub overfull : (ℕ → Refusal) → List ℕ → List Item → ℕ → ℕ → Option Refusal
overfull fault capacities xs p zero = None
overfull fault capacities xs p (suc more) = cond (nat_lt (slice_index capacities p) (count_part p xs)) (Some (fault p)) (overfull fault capacities xs (suc p) more)

-- what is wrong with the result of a joining from empty, for a work store of these capacities
abbrev pub joining_fault : List ValueKind → List ℕ → Group → Option Refusal
joining_fault ks capacities g = first_of (overfull work_full capacities g.items 0 (length ks)) (refuse_if (too_many g.runs) (too_many_runs 0))

-- what is wrong with a book to come, for a replica of these capacities
abbrev pub book_fault : List ValueKind → List ℕ → Group → Option Refusal
book_fault ks capacities b = first_of (overfull part_full capacities b.items 0 (length ks)) (refuse_if (too_many b.runs) (too_many_runs 1))

-- the item found at y's dot, if any, is at another part or place
abbrev pub is_elsewhere : Option Item → Item → Bool
is_elsewhere None y = false
is_elsewhere (Some x) y = not (one_spot x y)

-- the first item of the group, counted from n, whose dot stands elsewhere in the book
abbrev pub clash_fault : List Item → ℕ → List Item → Option Refusal
clash_fault held n [] = None
clash_fault held n (y ∷ ys) = cond (is_elsewhere (find y.dot held) y) (Some (stands_elsewhere n)) (clash_fault held (suc n) ys)
