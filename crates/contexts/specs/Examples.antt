-- Worked examples, computed from the definitions.
use Rattle.std.specs.Prelude.{◌≡◌, [], ◌∷◌}
use Rattle.causal.specs.Runs.{run}
use Rattle.contexts.specs.Contexts.{with_run}
use Rattle.kinds.specs.Models.{limit_kind, lines_kind}

pub record WorkedExamples : Type 0 where
  -- runs 1:1–2 and 1:4–4 with 1:3 added
  pub gap_closes : with_run (run 1 1 2 ∷ run 1 4 4 ∷ []) (run 1 3 3) ≡ run 1 1 4 ∷ []
  -- the last counter of one replica does not touch the first of the next
  pub replicas_apart : with_run (run 1 65535 65535 ∷ []) (run 2 1 1) ≡ run 1 65535 65535 ∷ run 2 1 1 ∷ []
  pub smaller_limit : limit_kind.join 160 125 ≡ 125
  pub all_lines : lines_kind.join 1 4 ≡ 5
