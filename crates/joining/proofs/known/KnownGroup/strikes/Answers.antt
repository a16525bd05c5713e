use Rattle.std.proofs.Common.{sym, ap, ◌∙◌}
use Rattle.causal.specs.Runs.{has}
use Rattle.joining.proofs.Struck.{struck_known, struck_unknown}
use Rattle.joining.proofs.known.KnownGroup.strikes.Goals as goal

pub returns-then-contains : goal.returns-then-contains
returns-then-contains g c s =
    let h = g.G.GroupSource.group c.args.self.now.group.now in
    let d = c.args.entry.entry.dot in
    struck_known h d c.has_entry.result (sym (ap (λ rs. has rs d) (c.args.self.now.same s)) ∙ sym c.contains.ensures ∙ c.if-contains.true) (c.has_entry.ensures s)

pub returns-else-contains : goal.returns-else-contains
returns-else-contains g c s =
    let h = g.G.GroupSource.group c.args.self.now.group.now in
    let d = c.args.entry.entry.dot in
    c.if-contains.false ∙ struck_unknown h d (sym (ap (λ rs. has rs d) (c.args.self.now.same s)) ∙ sym c.contains.ensures ∙ c.if-contains.false)
