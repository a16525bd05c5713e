-- Joins of codes, computed from the definitions.
use Rattle.std.specs.Prelude.{◌≡◌}
use Rattle.kinds.specs.Models.{limit_kind, lines_kind, mark_kind}

pub record WorkedJoins : Type 0 where
  pub smaller_limit : limit_kind.join 160 125 ≡ 125
  pub all_lines : lines_kind.join 1 4 ≡ 5
  pub same_mark : mark_kind.join 0 0 ≡ 0
