use Rattle.std.proofs.Common.{◌≡◌}
use Rattle.shelf_moves.proofs.MoveLaws.{OnTheWay}
use Rattle.shelf_moves.proofs.move_parcels.Given as goal

abbrev pub invariant-loop-i : goal.invariant-loop-i
invariant-loop-i g l =
    let A = g.A.Shelf in
    let B = g.B.Shelf in
    let a = l.initial.from in
    let b = l.initial.to in
    record {
      from_sizes : A.sizes l.from ≡ A.sizes a;
      to_sizes : B.sizes l.to ≡ B.sizes b;
      from_spare : A.spare l.from ≡ A.spare a;
      to_spare : B.spare l.to ≡ B.spare b;
      way : OnTheWay (B.sizes b) (A.parcels a) (B.parcels b) l.initial.memory l.i (A.parcels l.from) (B.parcels l.to) l.memory;
    }
