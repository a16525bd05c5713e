use Rattle.std.proofs.Common.{filter, ap, ◌∙◌, rules}
use Rattle.std.proofs.lemmas.Iterator.Consumers.{YieldsList-from_first, YieldsList-from_filter, count_from_yields_List}
use Rattle.causal.specs.Places.{is_under}
use Rattle.stores.specs.Items.{in_part}
use Rattle.stores.specs.PartEntries.{entries_left}
use Rattle.stores.specs.Walks.{entries_in}
use Rattle.stores.proofs.Walking.{under_each}
use Rattle.stores.proofs.walks.count_under.Goals as goal

pub returns : goal.returns
returns g c =
    let held = g.S.DotStore.entries in
    let xs = held c.args.store.now in
    let p = c.args.part in
    let place = c.args.place in
    count_from_yields_List c.filter.result c.count.result c.count.ensures.ran
    (YieldsList-from_filter _ (λ e. is_under e.place place)
    (YieldsList-from_first (λ e. e) (entries_left held) (entries_in p xs) (ap (entries_left held) c.filter.ensures.source ∙ c.entries_of.ensures))
    c.filter.ensures.closure (λ x r q k. search rules))
    ∙ under_each place (filter (in_part p) xs)
