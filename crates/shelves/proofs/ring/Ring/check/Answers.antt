use Rattle.std.proofs.Common.{◌/◌, sym, ◌∙◌, arith}
use Rattle.shelves.specs.Meanings.{parcels_of_ring, sizes_of_ring}
use Rattle.shelves.proofs.Stocks.{same_misfit}
use Rattle.shelves.proofs.RingLaws.{ring_count}
use Rattle.shelves.proofs.ring.Ring.check.Goals as goal

pub returns-clause-answer : goal.returns-clause-answer
returns-clause-answer c =
    let t = c.args.self.now in
    c.check.ensures.answer
    ∙ same_misfit _ (sizes_of_ring t) (parcels_of_ring t) t.count (c.used.result / 24) c.args.bytes (cc) (sym (ring_count t.bytes.now t.start t.lengths t.count t.sound.listed)) (omega (arith, c.used.ensures.records))
