use Rattle.std.proofs.Common.{refl}
use Rattle.kinds.proofs.laws.joins_are_as_worked.Goals as goal

pub returns : goal.returns
returns c = record { smaller_limit = refl; all_lines = refl; same_mark = refl }
