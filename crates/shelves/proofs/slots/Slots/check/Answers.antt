use Rattle.std.proofs.Common.{◌/◌, ◌^◌, ◌<◌, length, sym, ◌∙◌, arith, rules}
use Rattle.shelves.specs.Meanings.{parcels_of_slots, sizes_of_slots}
use Rattle.shelves.proofs.SlotSizes.{room_fits}
use Rattle.shelves.proofs.SlotLaws.{slots_count, slots_sum}
use Rattle.shelves.proofs.Stocks.{same_misfit}
use Rattle.shelves.proofs.slots.Slots.check.Goals as goal

pub used-requires : goal.used-requires
used-requires c =
    let t = c.args.self.now in
    let h : length t.bytes.now < 2 ^ 64 = search rules in
    omega (arith, slots_sum t.bytes.now t.size t.slots t.count t.sound, t.sound.within.held, room_fits (length t.bytes.now) t.size)

pub invariant_of-stock : goal.invariant_of-stock
invariant_of-stock c =
    let t = c.args.self.now in
    record { within = omega (arith, slots_sum t.bytes.now t.size t.slots t.count t.sound, t.sound.within.held, c.used.ensures, c.room.ensures) }

pub returns : goal.returns
returns c =
    let t = c.args.self.now in
    c.check.ensures.answer ∙ same_misfit _ (sizes_of_slots t) (parcels_of_slots t) t.count (c.used.result / 24) c.args.bytes (cc) (sym (slots_count t.bytes.now t.size t.slots t.count t.sound))
    (omega (arith, c.used.ensures, slots_sum t.bytes.now t.size t.slots t.count t.sound))
