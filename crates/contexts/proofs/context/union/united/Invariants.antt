use Rattle.std.proofs.Common.{◌+◌, ◌≤◌, length}
use Rattle.contexts.proofs.Merges.{Merging}
use Rattle.contexts.proofs.context.union.united.Given as goal

abbrev pub invariant-loop-run : goal.invariant-loop-run
invariant-loop-run l =
    let it = l.run-iterator in
    record {
      goes_on : (goal.iterator-loop-run).can_next it;
      ends : (goal.iterator-loop-run).is_finite it;
      merging : Merging l.merged it.left.now it.right.now l.xs l.ys;
      room : length l.merged + (length it.left.now + length it.right.now) ≤ length l.xs + length l.ys;
    }
