use Rattle.std.proofs.Common.{◌≡◌}
use Rattle.std.specs.List.{slice_get}
use Rattle.sources.proofs.Parts.{from_part}
use Rattle.sources.proofs.store_group.entry_in_order.Given as goal

abbrev pub invariant-loop-part : goal.invariant-loop-part
invariant-loop-part g l = slice_get (from_part l.part (g.S.DotStore.entries l.store)) l.left ≡ slice_get (g.S.DotStore.entries l.store) l.index
