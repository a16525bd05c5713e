use Rattle.std.proofs.Common.{sym, ◌∙◌}
use Rattle.stores.specs.Items.{item_at, in_part}
use Rattle.joining.proofs.EnterSteps.{held_told}
use Rattle.joining.proofs.Walks.{kept_stands}
use Rattle.joining.proofs.entering.is_held.Goals as goal

pub returns-then-is_listed : goal.returns-then-is_listed
returns-then-is_listed g c =
    c.if-is_listed.true
    ∙ sym (kept_stands (in_part c.from-part.result) c.args.entry.entry.dot (g.S.DotStore.entries c.args.store.now) (c.is_listed.ensures tt c.if-is_listed.true))

pub returns-else-is_listed : goal.returns-else-is_listed
returns-else-is_listed g c =
    c.is_some.ensures ∙ held_told (λ x. item_at x.0 x.1) c.find.result c.args.entry.entry.dot (g.S.DotStore.entries c.args.store.now) c.find.ensures
