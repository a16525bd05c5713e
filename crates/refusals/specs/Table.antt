-- Refusals: what a call answers when it does not do what it was asked. Each has a number, a layer and a place.
-- What the place counts (a record, a part, bytes) goes by the number; docs/REFUSALS.md has the table.
use Rattle.std.specs.Prelude.{ℕ, Bool, cond, Some, None, Option, nat_lt}
use Rattle.refusals.specs.declared.Refusal.{Refusal}

-- numbers below 20 are a shelf's, below 30 a group's, and the others a replica's
abbrev pub layer_of : ℕ → ℕ
layer_of number = cond (nat_lt number 20) 1 (cond (nat_lt number 30) 2 3)

abbrev pub refused : ℕ → ℕ → Refusal
refused number place = record { number = number; layer = layer_of number; place = place }

-- the refusal, where something is wrong
abbrev pub refuse_if : Bool → Refusal → Option Refusal
refuse_if wrong fault = cond wrong (Some fault) None
