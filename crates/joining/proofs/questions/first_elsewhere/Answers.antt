use Rattle.std.proofs.Common.{◌≡◌, true, false, rules}
use Rattle.std.proofs.lemmas.Iterator.{IsFirst-from_position}
use Rattle.sources.proofs.Walks.{yields_entries}
use Rattle.joining.specs.Questions.{elsewhere}
use Rattle.joining.proofs.CountSteps.{first_told}
use Rattle.joining.proofs.questions.first_elsewhere.Goals as goal

pub returns : goal.returns
returns g c s =
    let G = g.G.GroupSource in
    let xs = g.S.DotStore.entries c.args.store.now in
    let all = yields_entries G.legible G.group (λ it. it.group) (λ it. it.next) c.args.group.now s c.group_entries.result c.group_entries.ensures.group in
    first_told xs (G.group c.args.group.now).items c.group_entries.result.next c.position.result c.group_entries.ensures.first
    (IsFirst-from_position c.position.new.self _ _ (λ y. elsewhere xs y ≡ true) (λ y. elsewhere xs y ≡ false) c.position.ensures.ran all (λ x q k. search rules) (λ x q k. search rules))
