-- Reading a group: one record after another until the origin, and then a look at the dots.
use Rattle.std.specs.Prelude.{ℕ, zero, suc, ◌+◌, ◌*◌, ◌/◌, Bool, true, false, cond, not, ◌&&◌, ◌||◌, List, [], ◌∷◌, ◌++◌, map, length, take, drop, Some, None, Ok, Err, Option, Result, nat_lt}
use Rattle.refusals.specs.declared.Refusal.{Refusal}
use Rattle.causal.specs.declared.dots.Dot.{Dot}
use Rattle.causal.specs.declared.runs.Run.{Run}
use Rattle.causal.specs.Dots.{same_dot}
use Rattle.kinds.specs.Kinds.{ValueKind}
use Rattle.causal.specs.Runs.{has, before, last}
use Rattle.contexts.specs.Contexts.{most_runs}
use Rattle.stores.specs.Items.{Item, item_at, precedes}
use Rattle.stores.specs.Puts.{fits_part}
use Rattle.groups.specs.Groups.{Group}
use Rattle.reading.specs.declared.faults.GroupFault.{GroupFault}
use Rattle.records.specs.declared.record.GroupSummary.{GroupSummary}
use Rattle.records.specs.declared.record.Origin.{Origin}
use Rattle.records.specs.declared.record.PartEntry.{PartEntry}
use Rattle.records.specs.declared.record.Record.{Record}
use Rattle.records.specs.declared.record.Record.TheVariants.{Entry as of_entry, Run as of_run, Origin as of_origin}
use Rattle.reading.specs.Faults.{bad_record, out_of_order, bad_code, stray_dot, no_origin, trailing_records, refusal_of}
use Rattle.records.specs.Records.{decoded}

abbrev pub item_in : PartEntry → Item
item_in e = item_at e.part e.entry

-- an item comes after the last one, if there is one, and before every run
abbrev pub item_follows : Option Item → Item → Bool
item_follows None x = true
item_follows (Some y) x = precedes y x

-- a run comes after the last one, if there is one, with a gap
abbrev pub run_follows : Option Run → Run → Bool
run_follows None r = true
run_follows (Some q) r = before q r

abbrev pub is_empty : {X : Type 0} → List X → Bool
is_empty [] = true
is_empty (x ∷ xs) = false

-- what is wrong with an entry at record n, after the item y and the runs rs
abbrev pub entry_fault : List ValueKind → Option Item → List Run → ℕ → Item → Option Refusal
entry_fault ks y rs n x =
    cond (nat_lt x.part (length ks))
    (cond (is_empty rs && item_follows y x) (cond (fits_part ks x.part x.code) None (Some (bad_code n))) (Some (out_of_order n)))
    (Some (bad_record n))

abbrev pub run_fault : List Run → ℕ → Run → Option Refusal
run_fault rs n r = cond (nat_lt (length rs) most_runs && run_follows (last rs) r) None (Some (out_of_order n))

-- what is wrong with the record n
abbrev pub record_fault : List ValueKind → Option Item → List Run → ℕ → Option Record → Option Refusal
record_fault ks y rs n None = Some (bad_record n)
record_fault ks y rs n (Some (of_entry e)) = entry_fault ks y rs n (item_in e)
record_fault ks y rs n (Some (of_run r)) = run_fault rs n r
record_fault ks y rs n (Some (of_origin o)) = None

-- the dot is one of these
abbrev pub among : Dot → List Dot → Bool
among d [] = false
among d (e ∷ es) = same_dot e d || among d es

-- the first dot, counted from n, that stands in no run or among those seen
abbrev pub stray : List Run → List Dot → ℕ → List Dot → Option ℕ
stray rs seen n [] = None
stray rs seen n (d ∷ ds) = cond (has rs d && not (among d seen)) (stray rs (seen ++ (d ∷ [])) (n + 1) ds) (Some n)

-- what reading gives: a fault, or a group, its origin, and how many records they have
pub data Reading : Type 0 where
  faulty : Refusal → Reading
  complete : Group → Origin → ℕ → Reading

abbrev pub dots_of : List Item → List Dot
dots_of xs = map (λ x. x.dot) xs

-- where the origin has come
abbrev pub finished : List Item → List Run → Origin → ℕ → Reading
finished xs rs o n = elim (stray rs [] 0 (dots_of xs)) [ Some i ↦ faulty (stray_dot i) | None ↦ complete (record { items = xs; runs = rs }) o n ]

-- from record n on, of which so many more are whole: xs and rs have come before
abbrev pub scan : List ValueKind → List Item → List Run → ℕ → ℕ → List ℕ → Reading
scan ks xs rs n zero bytes = faulty (no_origin n)
scan ks xs rs n (suc left) bytes = elim (record_fault ks (last xs) rs n (decoded (take 24 bytes))) [
  | Some fault ↦ faulty fault
  | None ↦ elim (decoded (take 24 bytes)) [
    | None ↦ faulty (bad_record n)
    | Some r ↦ elim r [
      | of_entry e ↦ scan ks (xs ++ (item_in e ∷ [])) rs (n + 1) left (drop 24 bytes)
      | of_run q ↦ scan ks xs (rs ++ (q ∷ [])) (n + 1) left (drop 24 bytes)
      | of_origin o ↦ finished xs rs o (n + 1)
    ]
  ]
]

-- the first group of a journal
abbrev pub first_group : List ValueKind → List ℕ → Reading
first_group ks bytes = scan ks [] [] 0 (length bytes / 24) bytes

-- nothing may follow the group, of so many records in all
abbrev pub alone : ℕ → Reading → Reading
alone all (faulty fault) = faulty fault
alone all (complete g o n) = cond (nat_lt n all) (faulty (trailing_records n)) (complete g o n)

-- the one group of a parcel
abbrev pub parcel_group : List ValueKind → List ℕ → Reading
parcel_group ks bytes = alone (length bytes / 24) (first_group ks bytes)

-- what is told of a reading: the fault, or the group's origin, its numbers of entries and runs, and its length in bytes
abbrev pub summary : Reading → Result GroupSummary Refusal
summary (faulty fault) = Err fault
summary (complete g o n) = Ok (record { origin = o; entries = length g.items; runs = length g.runs; length = 24 * n })

-- an answer, with the refusal in place of the fault
abbrev pub told : {X : Type 0} → Result X GroupFault → Result X Refusal
told (Ok x) = Ok x
told (Err f) = Err (refusal_of f)
