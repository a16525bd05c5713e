use Rattle.std.proofs.Common.{refl}
use Rattle.causal.specs.Dots.{same_dot, dot_less}
use Rattle.causal.specs.Places.{same_place, place_less}
use Rattle.causal.specs.Runs.{in_run, before, hull}
use Rattle.groups.specs.Groups.{meet}
use Rattle.groups.proofs.laws.join_examples_are_as_worked.Goals as goal

pub returns : goal.returns
unfolding same_dot dot_less same_place place_less in_run before hull meet
returns c = record { gap_closes = refl; struck_goes = refl; both_stand = refl; later_stands = refl; smaller_limit = refl; all_lines = refl; set_outlives_clear = refl; clear_outlives_amend = refl }
