-- One step of a scan.
use Rattle.std.proofs.Common.{ℕ, ◌+◌, List, [], ◌∷◌, ◌++◌, Some, None, Option}
use Rattle.refusals.specs.declared.Refusal.{Refusal}
use Rattle.causal.specs.declared.runs.Run.{Run}
use Rattle.kinds.specs.Kinds.{ValueKind}
use Rattle.stores.specs.Items.{Item}
use Rattle.records.specs.declared.record.Record.{Record}
use Rattle.records.specs.declared.record.Record.TheVariants.{Entry as of_entry, Run as of_run, Origin as of_origin}
use Rattle.reading.specs.Faults.{bad_record}
use Rattle.reading.specs.Reading.{item_in, Reading, faulty, finished, scan}

-- the scan that goes on after one record, from what is wrong with the record and what it is
abbrev pub resume : List ValueKind → List Item → List Run → ℕ → ℕ → List ℕ → Option Refusal → Option Record → Reading
resume ks xs rs n left rest fault o = elim fault [
  | Some f ↦ faulty f
  | None ↦ elim o [
    | None ↦ faulty (bad_record n)
    | Some r ↦ elim r [
      | of_entry e ↦ scan ks (xs ++ (item_in e ∷ [])) rs (n + 1) left rest
      | of_run q ↦ scan ks xs (rs ++ (q ∷ [])) (n + 1) left rest
      | of_origin p ↦ finished xs rs p (n + 1)
    ]
  ]
]
