use Rattle.std.proofs.Common.{◌≡◌}
use Rattle.stores.specs.PartEntries.{entries_left}
use Rattle.stores.specs.Walks.{entries_in}
use Rattle.stores.proofs.Walking.{put_all}
use Rattle.stores.proofs.walks.copy_part.Given as goal

abbrev pub invariant-loop-entry : goal.invariant-loop-entry
invariant-loop-entry g l =
    let S = g.S.DotStore in
    let R = g.R.DotStore in
    let old = l.initial.into in
    let all = put_all S.kinds (S.capacities old) l.part in record {
      room : S.capacities l.into ≡ S.capacities old;
      rest : all (S.entries l.into) (entries_left R.entries l.entry-iterator) ≡ all (S.entries old) (entries_in l.part (R.entries l.from));
    }
