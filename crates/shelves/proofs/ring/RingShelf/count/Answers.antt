use Rattle.std.proofs.Common.{sym}
use Rattle.shelves.proofs.RingLaws.{ring_count}
use Rattle.shelves.proofs.ring.RingShelf.count.Goals as goal

pub returns : goal.returns
returns c = let t = c.args.self.now in sym (ring_count t.bytes.now t.start t.lengths t.count t.sound.listed)
