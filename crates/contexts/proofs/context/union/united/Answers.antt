use Rattle.std.proofs.Common.{length, ap, arith}
use Rattle.causal.proofs.RunSets.{union_stays_canonical}
use Rattle.contexts.proofs.Merges.{merging_starts, merging_next, merging_ends, length-taken, length-extended}
use Rattle.contexts.proofs.context.union.united.Goals as goal

pub loop-run-init : goal.loop-run-init
loop-run-init c =
    let all = c.into_iter-run-iterator.ensures.into_iter_gives in
    record {
      goes_on = tt;
      ends = tt;
      merging = rw (c.empty-merged.ensures, all) (merging_starts c.args.xs.now c.args.ys.now c.requires.left c.requires.right);
      room = rw (c.empty-merged.ensures, all) (omega arith);
    }

pub loop-run-preserved : goal.loop-run-preserved
loop-run-preserved c =
    let run = c.in-Some.run' in
    let taken = c.in-Some.ensures.steps in
    record {
      goes_on = tt;
      ends = tt;
      merging = rw c.add.ensures (merging_next c.loop-run.merged _ _ run _ _ _ _ taken c.loop-run.invariant.merging);
      room = omega (arith, length-extended c.loop-run.merged run, ap length c.add.ensures, length-taken _ _ _ _ _ taken);
    }

pub to_context-requires : goal.to_context-requires
to_context-requires c =
    let xs = c.args.xs.now in
    let ys = c.args.ys.now in
    rw (merging_ends _ _ _ xs ys c.requires.left c.requires.right c.in-None.ensures.steps c.loop-run.invariant.merging) (union_stays_canonical xs ys c.requires.left c.requires.right)

pub returns : goal.returns
returns c =
    let done = merging_ends _ _ _ c.args.xs.now c.args.ys.now c.requires.left c.requires.right c.in-None.ensures.steps c.loop-run.invariant.merging in
    rw done at c.to_context.ensures
