use Rattle.std.proofs.Common.{refl}
use Rattle.causal.specs.Dots.{same_dot, dot_less}
use Rattle.causal.specs.Places.{same_place, place_less}
use Rattle.causal.specs.Runs.{in_run, before, hull}
use Rattle.groups.specs.Groups.{meet}
use Rattle.records.specs.Records.{is_entry_record, is_run_record, is_origin_record}
use Rattle.calls.specs.Examples.{WorkedEdits, WorkedShips, WorkedDeliveries, WorkedAbsorptions, WorkedOthers}
use Rattle.calls.proofs.laws.calls_are_as_worked.Goals as goal

edits : WorkedEdits
unfolding same_dot dot_less same_place place_less in_run before hull meet is_entry_record is_run_record is_origin_record
edits = record { sets = refl; sets_two = refl; sets_again = refl; clears = refl; clears_nothing = refl; amends = refl; full_saved = refl; another_pen = refl; thirty_bytes = refl; no_actions = refl; nine_actions = refl; no_such_part = refl; set_at_depth_0 = refl; clear_with_a_code = refl; no_such_action = refl; unfit_code = refl; nothing_to_amend = refl; no_counter_left = refl; no_step_left = refl; no_room_to_join = refl; many_struck = refl; part_is_full = refl; many_runs = refl; short_output = refl; shelf_is_full = refl }

ships : WorkedShips
unfolding same_dot dot_less same_place place_less in_run before hull meet is_entry_record is_run_record is_origin_record
ships = record { ships_all = refl; ships_last = refl; ships_nothing = refl; ships_later = refl; not_made_yet = refl; step_forgotten = refl; no_room_to_join = refl; many_runs = refl; short_output = refl; link_is_full = refl; whole = refl; whole_short = refl; whole_full = refl }

deliveries : WorkedDeliveries
unfolding same_dot dot_less same_place place_less in_run before hull meet is_entry_record is_run_record is_origin_record
deliveries = record { set_outlives_clear = refl; clear_outlives_amend = refl; known_already = refl; no_parcel = refl; short_memory = refl; bad_record = refl; out_of_order = refl; bad_code = refl; stray_dot = refl; no_origin = refl; trailing = refl; own_parcel = refl; gap = refl; no_step_left = refl; clash = refl; part_is_full = refl; many_runs = refl; shelf_is_full = refl }

absorptions : WorkedAbsorptions
unfolding same_dot dot_less same_place place_less in_run before hull meet is_entry_record is_run_record is_origin_record
absorptions = record { absorbs = refl; known_already = refl; bad_record = refl; out_of_order = refl; bad_code = refl; stray_dot = refl; no_origin = refl; nothing_at_all = refl; short_memory = refl; own_group = refl; gap = refl; no_step_left = refl; clash = refl; part_is_full = refl; many_runs = refl; shelf_is_full = refl }

others : WorkedOthers
unfolding same_dot dot_less same_place place_less in_run before hull meet is_entry_record is_run_record is_origin_record
others = record { loses = refl; nothing_to_lose = refl; repeats = refl; nothing_to_repeat = refl; short_memory = refl; link_is_full = refl; forgets = refl; forgets_no_more = refl; not_made_yet = refl; reads = refl; short_list = refl; nothing_read = refl; no_such_part = refl; no_depth = refl }

pub returns : goal.returns
returns c = record { edits = edits; ships = ships; deliveries = deliveries; absorptions = absorptions; others = others }
