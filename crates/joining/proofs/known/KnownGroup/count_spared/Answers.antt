use Rattle.std.proofs.Common.{not, length, filter, ap, ◌∙◌, rules}
use Rattle.std.proofs.lemmas.Iterator.Consumers.{YieldsList-from_first, YieldsList-from_filter, count_from_yields_List}
use Rattle.stores.specs.Items.{in_part}
use Rattle.stores.specs.PartEntries.{entries_left}
use Rattle.stores.specs.Walks.{entries_in}
use Rattle.joining.specs.Questions.{struck}
use Rattle.joining.specs.Strikes.{spared}
use Rattle.joining.proofs.CountSteps.{spared_each}
use Rattle.joining.proofs.known.KnownGroup.count_spared.Goals as goal

pub returns : goal.returns
returns g c s =
    let h = g.G.GroupSource.group c.args.self.now.group.now in
    let held = g.S.DotStore.entries in
    let xs = held c.args.store.now in
    let p = c.from.result in
    count_from_yields_List c.filter.result c.count.result c.count.ensures.ran
    (YieldsList-from_filter _ (λ e. not (struck h e.dot))
    (YieldsList-from_first (λ e. e) (entries_left held) (entries_in p xs) (ap (entries_left held) c.filter.ensures.source ∙ c.entries_of.ensures))
    c.filter.ensures.closure (λ x r q k. search rules))
    ∙ spared_each h (filter (in_part p) xs) ∙ ap (λ q. length (filter (spared h) (filter (in_part q) xs))) c.from.ensures
