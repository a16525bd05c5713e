use Rattle.std.proofs.Common.{◌^◌, ◌<◌, length, ◌∙◌, arith, rules}
use Rattle.shelves.proofs.RingLaws.{ring_sum, ring_fits}
use Rattle.shelves.proofs.ring.Ring.used.Goals as goal

pub total-requires : goal.total-requires
total-requires c =
    let t = c.args.self.now in
    let h : length t.bytes.now < 2 ^ 64 = search rules in
    omega (arith, ring_fits t.bytes.now t.start t.lengths t.count t.sound)

pub returns-clause-records : goal.returns-clause-records
returns-clause-records c = let t = c.args.self.now in c.total.ensures ∙ ring_sum t.bytes.now t.start t.lengths t.count t.sound
