use Rattle.std.proofs.Common.{◌+◌, take, set, ap, ◌∙◌}
use Rattle.tables.proofs.Shift.{take_moved_up}
use Rattle.tables.proofs.rows.insert_at.Goals as goal

pub returns-clause-used : goal.returns-clause-used
returns-clause-used g c =
    ap (λ rows. take (c.args.len + 1) (set rows c.args.at c.args.row)) c.copy_within.ensures.after
    ∙ take_moved_up c.args.rows.now c.args.len c.args.at c.args.row c.requires.within c.requires.room
