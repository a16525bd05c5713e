use Rattle.std.proofs.Common.{◌≡◌, suc, ◌-◌, List, [], ◌∷◌, length, refl, ◌∙◌, rules, arith}
use Rattle.std.specs.List.{slice_get}
use Rattle.causal.specs.declared.runs.Run.{Run}
use Rattle.causal.specs.Runs.{last}
use Rattle.contexts.specs.Contexts.{runs_of}
use Rattle.contexts.proofs.context.Context.last_run.Goals as goal

slice_get-last : (rs : List Run) → slice_get rs (length rs - 1) ≡ last rs
slice_get-last [] = refl
slice_get-last (r ∷ []) = refl
slice_get-last (r ∷ q ∷ rs) =
    let past : length (r ∷ q ∷ rs) - 1 ≡ suc (length (q ∷ rs) - 1) = omega arith in
    rw past (slice_get-last (q ∷ rs))

pub returns : goal.returns
returns c =
    let got : c.copied.result ≡ slice_get (runs_of c.args.self.now) (length (runs_of c.args.self.now) - 1) = search rules in
    got ∙ slice_get-last (runs_of c.args.self.now)
