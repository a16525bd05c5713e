use Rattle.std.proofs.Common.{ap, ◌∙◌, arith, rules, of_calls, tests}
use Rattle.std.proofs.lemmas.Iterator.{YieldsList-from_range, YieldsList-from_map}
use Rattle.std.proofs.lemmas.Iterator.Consumers.{YieldsList-at, sum_by_from_yields_List, fits_by_from_yields_list}
use Rattle.stores.specs.Items.{count_part}
use Rattle.stores.specs.Laws.{count_parts}
use Rattle.stores.proofs.Walking.{counts_small, counts_summed}
use Rattle.stores.proofs.Lookups.{part_counts_add_up}
use Rattle.stores.proofs.walks.count_all.Goals as goal

pub sum-requires : goal.sum-requires
sum-requires g c =
    let S = g.S.DotStore in
    let t = c.args.store.now in
    let xs = S.entries t in
    let n = c.part_count.result in
    let few = S.parts.few in
    let m = c.part_count.ensures in
    let small = counts_small S.kinds (S.capacities t) xs n (S.roomy t) (S.orderly t) in
    record {
      can = search of_calls;
      finite = search of_calls;
      fits = fits_by_from_yields_list _ _ c.map.result _
          (YieldsList-from_map _ (λ p. count_part p xs) (YieldsList-at c.map.ensures.source (YieldsList-from_range 0 n n (cc) (omega arith))) c.map.ensures.closure (λ x r q k. search (rules, tests)))
          (omega (arith, counts_summed n xs));
    }

pub returns : goal.returns
returns g c =
    let S = g.S.DotStore in
    let t = c.args.store.now in
    let xs = S.entries t in
    let n = c.part_count.result in
    sum_by_from_yields_List _ _ c.map.result _ c.sum.ensures.ran
    (YieldsList-from_map _ (λ p. count_part p xs) (YieldsList-at c.map.ensures.source (YieldsList-from_range 0 n n (cc) (omega arith))) c.map.ensures.closure (λ x r q k. search (rules, tests)))
    ∙ counts_summed n xs ∙ ap (λ j. count_parts j xs) c.part_count.ensures
    ∙ part_counts_add_up S.kinds (S.capacities t) xs (S.orderly t)
