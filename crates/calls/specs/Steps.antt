-- The steps of a replica, and the origins that its groups are written under.
use Rattle.std.specs.Prelude.{ℕ, ◌+◌, Option, nat_le}
use Rattle.refusals.specs.declared.Refusal.{Refusal}
use Rattle.refusals.specs.Table.{refuse_if}
use Rattle.records.specs.declared.record.Origin.{Origin}
use Rattle.calls.specs.Faults.{used_up}

-- steps go up to this
abbrev pub last_step : ℕ
last_step = 4294967295

abbrev pub step_fault : ℕ → ℕ → Option Refusal
step_fault step place = refuse_if (nat_le last_step step) (used_up place)

abbrev pub origin : ℕ → ℕ → ℕ → Origin
origin sender since until = record { sender = sender; since = since; until = until }

-- the origin of a replica's next step
abbrev pub next_origin : ℕ → ℕ → Origin
next_origin number step = origin number step (step + 1)
