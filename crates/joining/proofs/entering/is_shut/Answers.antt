use Rattle.std.proofs.Common.{sym, ◌∙◌}
use Rattle.contexts.specs.Contexts.{runs_of}
use Rattle.joining.proofs.EnterSteps.{shut_told, unshut_told}
use Rattle.joining.proofs.entering.is_shut.Goals as goal

pub returns-then-contains : goal.returns-then-contains
returns-then-contains g c =
    shut_told (runs_of c.args.context.now) c.args.entry.entry.dot (g.S.DotStore.entries c.args.store.now) c.is_held.result (sym c.contains.ensures ∙ c.if-contains.true) c.is_held.ensures

pub returns-else-contains : goal.returns-else-contains
returns-else-contains g c =
    c.if-contains.false
    ∙ unshut_told (runs_of c.args.context.now) c.args.entry.entry.dot (g.S.DotStore.entries c.args.store.now) (sym c.contains.ensures ∙ c.if-contains.false)
