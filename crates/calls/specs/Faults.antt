-- What a replica refuses: one definition for each number. A shelf's refusals (11 to 14) and a group's (21 to 26) stand with
-- shelves and records, a full part (33) with stores, what stands against a join (34, 40, 44) with groups, output that is too
-- short (41) with records.
use Rattle.std.specs.Prelude.{ℕ}
use Rattle.refusals.specs.declared.Refusal.{Refusal}
use Rattle.refusals.specs.Table.{refused}

-- the sender is the replica itself
abbrev pub own_parcel : ℕ → Refusal
own_parcel sender = refused 31 sender

-- steps are missing between what was heard of the sender and the parcel
abbrev pub gap : ℕ → Refusal
gap heard = refused 32 heard

-- bytes that are no actions, or a bad action
abbrev pub bad_action : ℕ → Refusal
bad_action action = refused 35 action

-- an amend where nothing is
abbrev pub nothing_there : ℕ → Refusal
nothing_there action = refused 36 action

-- no counter or no step is left
abbrev pub used_up : ℕ → Refusal
used_up place = refused 37 place

-- steps that are forgotten, or not yet made
abbrev pub not_kept : ℕ → Refusal
not_kept forgotten = refused 38 forgotten

abbrev pub other_pen : ℕ → Refusal
other_pen pen = refused 39 pen
