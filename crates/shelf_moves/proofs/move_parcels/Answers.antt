use Rattle.std.proofs.Common.{◌∙◌, arith}
use Rattle.shelf_moves.proofs.MoveLaws.{way_more, way_stops}
use Rattle.shelf_moves.proofs.move_parcels.Goals as goal

pub loop-i-preserved : goal.loop-i-preserved
loop-i-preserved g c =
    let A = g.A.Shelf in
    let B = g.B.Shelf in
    let w = c.loop-i.invariant in
    let e = c.if-not-move_first.ensures in
    let n = c.count-count.ensures in
    record {
      from_sizes = e.sizes.0 ∙ w.from_sizes;
      to_sizes = e.sizes.1 ∙ w.to_sizes;
      from_spare = e.spare.0 ∙ w.from_spare;
      to_spare = e.spare.1 ∙ w.to_spare;
      way = way_more (B.sizes c.args.to.now) (B.sizes c.loop-i.to) (A.parcels c.args.from.now) (B.parcels c.args.to.now) c.args.memory.now c.loop-i.i (A.parcels c.loop-i.from) (B.parcels c.loop-i.to) c.loop-i.memory
          (A.parcels c.move_first.new.from) (B.parcels c.move_first.new.to) c.move_first.new.memory (omega arith) w.way w.to_sizes c.loop-i.auto.memory e.answer e.from e.to e.memory;
    }

pub returns-then-not-move_first-clause-moved : goal.returns-then-not-move_first-clause-moved
returns-then-not-move_first-clause-moved g c =
    let A = g.A.Shelf in
    let B = g.B.Shelf in
    let w = c.loop-i.invariant in
    let e = c.if-not-move_first.ensures in
    let n = c.count-count.ensures in
    way_stops (B.sizes c.args.to.now) (B.sizes c.loop-i.to) (A.parcels c.args.from.now) (B.parcels c.args.to.now) c.args.memory.now c.loop-i.i (A.parcels c.loop-i.from) (B.parcels c.loop-i.to) c.loop-i.memory
    (A.parcels c.move_first.new.from) (B.parcels c.move_first.new.to) c.move_first.new.memory (omega arith) w.way w.to_sizes c.loop-i.auto.memory e.answer e.from e.to e.memory
