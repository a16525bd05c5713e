use Rattle.std.proofs.Common.{refl}
use Rattle.causal.specs.Runs.{before, hull}
use Rattle.contexts.proofs.laws.examples_are_as_worked.Goals as goal

pub returns : goal.returns
unfolding before hull
returns c = record { gap_closes = refl; replicas_apart = refl; smaller_limit = refl; all_lines = refl }
