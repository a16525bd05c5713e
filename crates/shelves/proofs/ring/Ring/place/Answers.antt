use Rattle.std.proofs.Common.{◌^◌, ◌<◌, length, arith, rules}
use Rattle.shelves.proofs.RingLaws.{ring_fits}
use Rattle.shelves.proofs.ring.Ring.place.Goals as goal

pub place_of-requires : goal.place_of-requires
place_of-requires c =
    let t = c.args.self.now in
    let h : length t.bytes.now < 2 ^ 64 = search rules in
    omega (arith, ring_fits t.bytes.now t.start t.lengths t.count t.sound)
