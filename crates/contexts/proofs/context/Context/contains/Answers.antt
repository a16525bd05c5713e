use Rattle.std.proofs.Common.{◌≡◌, ◌||◌, List, [], ◌∷◌, refl, ap, ◌∙◌, rules, tests, arith}
use Rattle.std.proofs.lemmas.Grind.{common_steps}
use Rattle.std.specs.List.{list_any}
use Rattle.std.proofs.lemmas.Iterator.{YieldsList-from_slice}
use Rattle.std.proofs.lemmas.Iterator.Search.{any_from_yields_List}
use Rattle.causal.specs.declared.dots.Dot.{Dot}
use Rattle.causal.specs.declared.runs.Run.{Run}
use Rattle.causal.specs.Runs.{in_run, has}
use Rattle.contexts.specs.Contexts.{runs_of}
use Rattle.contexts.proofs.context.Context.contains.Goals as goal

list_any-in_run : (rs : List Run) (d : Dot) → list_any (λ r. in_run r d) rs ≡ has rs d
list_any-in_run [] d = refl
list_any-in_run (r ∷ rs) d = ap (λ b. in_run r d || b) (list_any-in_run rs d)

pub returns : goal.returns
returns c =
    let runs = runs_of c.args.self.now in
    let d = c.args.dot in
    let walked : c.iter.result.rest.now ≡ runs = grind (arith, common_steps) in
    any_from_yields_List (λ r. in_run r d) _ _ _ c.any.ensures.ran (YieldsList-from_slice runs walked) (λ x b q k. search (rules, tests))
    ∙ list_any-in_run runs d
