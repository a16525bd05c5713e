use Rattle.std.proofs.Common.{◌≡◌, ◌*◌, length, ap, ◌∙◌, arith, refl}
use Rattle.std.proofs.lemmas.List.{length-take-le}
use Rattle.shelves.specs.Slotted.{slot_count, slot_size}
use Rattle.shelves.proofs.SlotSizes.{laid_out, lay_more, starts_front}
use Rattle.shelves.proofs.slot_parts.slots_in.Goals as goal

pub loop-i-preserved : goal.loop-i-preserved
loop-i-preserved c = lay_more c.loop-i.slot-items _ c.loop-i.i c.records_of-records.result (omega arith) refl c.loop-i.invariant

pub returns : goal.returns
returns c =
    let m = slot_count c.args.bytes c.args.size in
    let a = c.count_of.ensures in
    let n : length c.loop-i.slot-items ≡ c.count_of.result = c.loop-i.auto.slot-items ∙ length-take-le _ _ (omega arith) in
    laid_out _ m (slot_size c.args.size) (λ i h. starts_front c.loop-i.slot-items _ i (omega arith) ∙ c.loop-i.invariant i (omega arith) ∙ ap (λ n. 24 * (i * n)) c.records_of-records.ensures)
