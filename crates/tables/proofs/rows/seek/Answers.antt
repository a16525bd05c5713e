use Rattle.std.proofs.Common.{◌∙◌, rules, tests}
use Rattle.std.proofs.lemmas.Iterator.{YieldsList-from_slice}
use Rattle.std.proofs.lemmas.Iterator.Search.{position_from_yields_List}
use Rattle.causal.specs.Dots.{same_dot}
use Rattle.tables.proofs.Lead.{first_is}
use Rattle.tables.proofs.rows.seek.Goals as goal

pub returns : goal.returns
unfolding same_dot
returns g c =
    let rows = c.args.rows.now in
    let d = c.args.dot in
    position_from_yields_List (λ r. same_dot r.dot d) _ _ c.position.result c.position.ensures.ran (YieldsList-from_slice rows (cc)) (λ x b q k. search (rules, tests))
    ∙ first_is (λ r. same_dot r.dot d) rows
