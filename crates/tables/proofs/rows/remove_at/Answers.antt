use Rattle.std.proofs.Common.{◌-◌, take, ap, ◌∙◌}
use Rattle.tables.proofs.Shift.{take_moved_down}
use Rattle.tables.proofs.rows.remove_at.Goals as goal

pub returns-clause-used : goal.returns-clause-used
returns-clause-used g c =
    ap (take (c.args.len - 1)) c.copy_within.ensures.after
    ∙ take_moved_down c.args.rows.now c.args.len c.args.at c.requires.within c.requires.room
