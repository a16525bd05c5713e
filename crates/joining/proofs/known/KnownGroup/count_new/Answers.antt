use Rattle.std.proofs.Common.{length, drop, filter, ap, ◌∙◌, rules}
use Rattle.std.proofs.lemmas.Iterator.Consumers.{YieldsList-from_filter, count_from_yields_List}
use Rattle.contexts.specs.Contexts.{runs_of}
use Rattle.sources.proofs.Walks.{yields_entries}
use Rattle.joining.specs.Questions.{arrives}
use Rattle.joining.proofs.known.KnownGroup.count_new.Goals as goal

pub returns : goal.returns
unfolding arrives
returns g c s =
    let G = g.G.GroupSource in
    let t = c.args.self.now.group.now in
    let f = arrives (runs_of c.args.context.now) c.args.part in
    let made = c.filter.ensures.source in
    count_from_yields_List c.filter.result c.count.result c.count.ensures.ran
    (YieldsList-from_filter _ f
    (yields_entries G.legible G.group (λ it. it.group) (λ it. it.next) t s _ (ap (λ it. it.group.now) made ∙ c.group_entries.ensures.group))
    c.filter.ensures.closure (λ x r q k. search rules))
    ∙ ap (λ n. length (filter f (drop n (G.group t).items))) (ap (λ it. it.next) made ∙ c.group_entries.ensures.first)
