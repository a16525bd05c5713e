use Rattle.std.proofs.Common.{sym, rules}
use Rattle.shelves.proofs.RingCalls.{ring_took}
use Rattle.shelves.proofs.ring.RingShelf.append.Goals as goal

pub invariant_of-self : goal.invariant_of-self
invariant_of-self c =
    let t = c.args.self.now in
    let r = c.round-round.ensures in
    let took = ring_took t c.write_in.new.bytes c.args.parcel.now c.round-round.result c.used-used.result (search rules) (sym c.in_ok-check.ensures.answer) r.room r.start c.used-used.ensures.bytes c.write_in.ensures in
    record { sound = took.stays }

pub returns-clause-after : goal.returns-clause-after
returns-clause-after c =
    let t = c.args.self.now in
    let r = c.round-round.ensures in
    (ring_took t c.write_in.new.bytes c.args.parcel.now c.round-round.result c.used-used.result (search rules) (sym c.in_ok-check.ensures.answer) r.room r.start c.used-used.ensures.bytes c.write_in.ensures).parcels

pub returns-clause-spare : goal.returns-clause-spare
returns-clause-spare c =
    let t = c.args.self.now in
    let r = c.round-round.ensures in
    (ring_took t c.write_in.new.bytes c.args.parcel.now c.round-round.result c.used-used.result (search rules) (sym c.in_ok-check.ensures.answer) r.room r.start c.used-used.ensures.bytes c.write_in.ensures).spare
