use Rattle.std.proofs.Common.{filter, sym, ap, ◌∙◌}
use Rattle.stores.specs.Items.{in_part}
use Rattle.stores.proofs.Walking.{put_all, put_all_each}
use Rattle.stores.proofs.walks.copy_part.Goals as goal

pub returns-clause-after : goal.returns-clause-after
returns-clause-after g c =
    let S = g.S.DotStore in
    let old = c.args.into.now in
    let p = c.args.part in
    ap (put_all S.kinds (S.capacities old) p (S.entries c.loop-entry.into)) (sym c.in-None.ensures.steps.0) ∙ c.loop-entry.invariant.rest
    ∙ put_all_each S.kinds (S.capacities old) p (S.entries old) (filter (in_part p) (g.R.DotStore.entries c.args.from.now))
