use Rattle.std.proofs.Common.{◌≡◌, Some, None, ap, ◌∙◌, arith}
use Rattle.std.specs.List.{slice_get}
use Rattle.std.proofs.lemmas.Grind.{common_steps}
use Rattle.std.proofs.lemmas.Option.{gets}
use Rattle.shelves.specs.Extents.{parcel_in}
use Rattle.shelves.proofs.Placed.{placed_none, placed_some}
use Rattle.shelves.proofs.ring_parts.place_of.Goals as goal

pub returns-in_err-length-clause-parcel : goal.returns-in_err-length-clause-parcel
returns-in_err-length-clause-parcel c f =
    let e : slice_get c.args.lengths.now c.args.position ≡ None = grind (arith, common_steps, gets) in
    ap (parcel_in f) c.from_residual.ensures ∙ placed_none f c.args.lengths.now c.args.position e

pub returns-clause-parcel : goal.returns-clause-parcel
returns-clause-parcel c f =
    let e : slice_get c.args.lengths.now c.args.position ≡ Some c.in_ok-length.length = grind (arith, common_steps, gets) in
    placed_some f c.args.lengths.now c.args.position c.in_ok-length.length c.total-from.result e c.total-from.ensures
