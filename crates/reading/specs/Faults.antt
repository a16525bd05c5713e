-- What each fault of a group is, as a refusal: its number, and the record at which it was found.
use Rattle.std.specs.Prelude.{ℕ}
use Rattle.refusals.specs.declared.Refusal.{Refusal}
use Rattle.refusals.specs.Table.{refused}
use Rattle.reading.specs.declared.faults.GroupFault.{GroupFault}
use Rattle.reading.specs.declared.faults.GroupFault.TheVariants.{BadRecord, OutOfOrder, BadCode, StrayDot, NoOrigin, TrailingRecords}

abbrev pub bad_record : ℕ → Refusal
bad_record n = refused 21 n

abbrev pub out_of_order : ℕ → Refusal
out_of_order n = refused 22 n

abbrev pub bad_code : ℕ → Refusal
bad_code n = refused 23 n

abbrev pub stray_dot : ℕ → Refusal
stray_dot n = refused 24 n

abbrev pub no_origin : ℕ → Refusal
no_origin n = refused 25 n

abbrev pub trailing_records : ℕ → Refusal
trailing_records n = refused 26 n

abbrev pub refusal_of : GroupFault → Refusal
refusal_of (BadRecord n) = bad_record n
refusal_of (OutOfOrder n) = out_of_order n
refusal_of (BadCode n) = bad_code n
refusal_of (StrayDot n) = stray_dot n
refusal_of (NoOrigin n) = no_origin n
refusal_of (TrailingRecords n) = trailing_records n
