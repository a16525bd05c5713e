use Rattle.std.proofs.Common.{◌≡◌, ℕ, max, List, [], ◌∷◌, ap, ◌∙◌, fold, filter, rules, tests, arith, unwrap_or}
use Rattle.std.specs.Bool.{◌==◌}
use Rattle.std.specs.Iterator.Adapters.{filter_callee, filter_source}
use Rattle.std.proofs.lemmas.Iterator.{YieldsList-from_slice, YieldsList-from_map}
use Rattle.std.proofs.lemmas.Iterator.Consumers.{YieldsList-from_filter, reduce_from_yields_List}
use Rattle.std.proofs.lemmas.List.Folds.{max_of_map}
use Rattle.std.proofs.lemmas.Bool.Decides.{nat_tests}
use Rattle.std.proofs.lemmas.Grind.{common_steps}
use Rattle.causal.specs.declared.runs.Run.{Run}
use Rattle.causal.specs.Runs.{highest}
use Rattle.contexts.specs.Contexts.{runs_of}
use Rattle.contexts.proofs.context.Context.highest_counter.Goals as goal

fold-highest : (n m : ℕ) (rs : List Run) → fold (λ a r. max a r.last) m (filter (λ r. r.replica == n) rs) ≡ max m (highest n rs)
fold-highest n m [] = omega arith
fold-highest n m (r ∷ rs) = let i = fold-highest n (max m r.last) rs in let j = fold-highest n m rs in grind (arith, nat_tests)

pub returns : goal.returns
returns c =
    let runs = runs_of c.args.self.now in
    let n = c.args.replica in
    let walked : c.iter.result.rest.now ≡ runs = grind (arith, common_steps) in
    let found : c.unwrap_or.result ≡ max 0 (highest n runs) =
    c.unwrap_or.ensures
    ∙ ap (λ o. unwrap_or o 0)
    (reduce_from_yields_List _ c.map.result _ c.max.ensures.ran
    (YieldsList-from_map _ (λ (r : Run). r.last)
    (YieldsList-from_filter _ (λ (r : Run). r.replica == n) (YieldsList-from_slice runs (ap (λ i. i.rest.now) (ap filter_source c.map.ensures.source ∙ c.filter-of_replica.ensures.source) ∙ walked)) (ap filter_callee c.map.ensures.source ∙ c.filter-of_replica.ensures.closure) (λ x b q k. search (rules, tests)))
    c.map.ensures.closure (λ x r q k. search (rules, tests))))
    ∙ max_of_map (λ (r : Run). r.last) (filter (λ (r : Run). r.replica == n) runs) ∙ fold-highest n 0 runs in
    omega arith
