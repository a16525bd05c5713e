use Rattle.std.proofs.Common.{refl}
use Rattle.causal.specs.Dots.{same_dot, dot_less}
use Rattle.causal.specs.Places.{same_place, place_less}
use Rattle.causal.specs.Runs.{in_run, before, hull}
use Rattle.groups.specs.Groups.{meet}
use Rattle.records.specs.Records.{is_entry_record, is_run_record, is_origin_record}
use Rattle.history.proofs.laws.run_is_as_worked.Goals as goal

pub returns : goal.returns
unfolding same_dot dot_less same_place place_less in_run before hull meet is_entry_record is_run_record is_origin_record
returns c = record { replicas_answer = refl; machine_answers = refl; first_book = refl; second_book = refl; taken_in = refl; seen_by_two = refl; pasts_of_two = refl }
