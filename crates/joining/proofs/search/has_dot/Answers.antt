use Rattle.std.proofs.Common.{◌≡◌, true, false, rules}
use Rattle.std.proofs.lemmas.Iterator.{cases_from_any}
use Rattle.causal.specs.Dots.{same_dot}
use Rattle.stores.specs.Items.{has_dot}
use Rattle.sources.proofs.Walks.{yields_entries}
use Rattle.joining.proofs.Walks.{stands_told}
use Rattle.joining.proofs.search.has_dot.Goals as goal

pub returns : goal.returns
unfolding same_dot
returns g c s =
    let G = g.G.GroupSource in
    let d = c.args.dot in
    let all = yields_entries G.legible G.group (λ it. it.group) (λ it. it.next) c.args.group.now s c.group_entries.result c.group_entries.ensures.group in
    stands_told d (G.group c.args.group.now).items c.group_entries.result.next c.any.result c.group_entries.ensures.first
    (cases_from_any c.any.new.self _ _ (λ y. has_dot d y ≡ true) (λ y. has_dot d y ≡ false) c.any.ensures.ran all (λ x q k. search rules) (λ x q k. search rules))
