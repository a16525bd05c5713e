-- What each fault of a store is, as a refusal.
use Rattle.std.specs.Prelude.{ℕ}
use Rattle.refusals.specs.declared.Refusal.{Refusal}
use Rattle.refusals.specs.Table.{refused}
use Rattle.stores.specs.declared.faults.StoreFault.{StoreFault}
use Rattle.stores.specs.declared.faults.StoreFault.TheVariants.{Address, Unfit, Full}

-- a bad part, place or dot
abbrev pub bad_address : Refusal
bad_address = refused 35 0

-- a code that is not of the part's kind
abbrev pub bad_code : Refusal
bad_code = refused 23 0

-- no room in this part
abbrev pub part_full : ℕ → Refusal
part_full part = refused 33 part

-- the refusal that each fault is
abbrev pub refusal_of : StoreFault → Refusal
refusal_of Address = bad_address
refusal_of Unfit = bad_code
refusal_of (Full part) = part_full part

-- the same fault, where the part has this number
abbrev pub renumbered : ℕ → StoreFault → StoreFault
renumbered part Address = Address
renumbered part Unfit = Unfit
renumbered part (Full other) = Full part
