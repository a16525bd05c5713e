use Rattle.std.proofs.Common.{take, sym, ap, ◌∙◌}
use Rattle.std.specs.Bool.{⊤}
use Rattle.std.proofs.lemmas.Option.{MatchOption-at_some, slice_get_within}
use Rattle.shelves.specs.Meanings.{parcels_of_ring}
use Rattle.shelves.specs.Extents.{Placed, parcel_in}
use Rattle.shelves.proofs.Stocks.{remove_answer}
use Rattle.shelves.proofs.RingCalls.{ring_gave}
use Rattle.shelves.proofs.ring.RingShelf.remove.Goals as goal

pub invariant_of-self : goal.invariant_of-self
invariant_of-self c =
    let t = c.args.self.now in
    let e = c.in_ok-extent.extent in
    let p = MatchOption-at_some ⊤ (Placed (take t.count t.lengths) c.args.position) e c.in_ok-extent.ensures.ok_part c.place.ensures.there in
    let r = c.round-round.ensures in
    let moved = c.close_up-self.ensures in
    let gave = ring_gave t c.close_up-self.new.bytes c.close_up-self.result c.args.position c.used-used.result e c.round-round.result c.rotate_left.new.self p r.room r.start c.used-used.ensures.bytes
    c.close_up-self.auto.bytes moved.begins moved.moved c.rotate_left.ensures.after in
    record { sound = gave.stays }

pub returns-clause-answer : goal.returns-clause-answer
returns-clause-answer c =
    let ps = parcels_of_ring c.args.self.now in
    sym (remove_answer ps c.args.position (slice_get_within ps c.args.position _ (sym c.place.ensures.parcel ∙ ap (parcel_in _) c.in_ok-extent.ensures.ok_part)))

pub returns-clause-after : goal.returns-clause-after
returns-clause-after c =
    let t = c.args.self.now in
    let e = c.in_ok-extent.extent in
    let p = MatchOption-at_some ⊤ (Placed (take t.count t.lengths) c.args.position) e c.in_ok-extent.ensures.ok_part c.place.ensures.there in
    let r = c.round-round.ensures in
    let moved = c.close_up-self.ensures in
    let gave = ring_gave t c.close_up-self.new.bytes c.close_up-self.result c.args.position c.used-used.result e c.round-round.result c.rotate_left.new.self p r.room r.start c.used-used.ensures.bytes
    c.close_up-self.auto.bytes moved.begins moved.moved c.rotate_left.ensures.after in
    gave.parcels
