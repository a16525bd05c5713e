use Rattle.std.proofs.Common.{sym, ◌∙◌, map, rules, tests}
use Rattle.std.proofs.lemmas.Iterator.{YieldsList-from_slice}
use Rattle.std.proofs.lemmas.Iterator.Search.{any_from_yields_List}
use Rattle.causal.specs.Dots.{same_dot}
use Rattle.reading.specs.Stands.{dot_in}
use Rattle.reading.proofs.Dots.{any_among}
use Rattle.reading.proofs.Seen.{not_come}
use Rattle.reading.proofs.reader.dots.has_come.Goals as goal

pub returns-then-may_have : goal.returns-then-may_have
unfolding same_dot
returns-then-may_have c =
    any_from_yields_List (λ r. same_dot (dot_in r) c.args.dot) _ _ c.any.result c.any.ensures.ran (YieldsList-from_slice c.args.earlier.now cc) (λ x b q k. search (rules, tests))
    ∙ any_among c.args.dot c.args.earlier.now

pub returns-else-may_have : goal.returns-else-may_have
returns-else-may_have c =
    c.if-may_have.false ∙ sym (not_come c.args.seen.now.bits c.args.dot (map dot_in c.args.earlier.now) c.requires (sym c.may_have.ensures ∙ c.if-may_have.false))
