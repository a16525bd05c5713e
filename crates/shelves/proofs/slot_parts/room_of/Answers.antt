use Rattle.std.proofs.Common.{◌≡◌, ◌*◌, ap, ◌∙◌, arith}
use Rattle.shelves.specs.Slotted.{slot_count, slot_size}
use Rattle.shelves.proofs.SlotSizes.{room_fits}
use Rattle.shelves.proofs.slot_parts.room_of.Goals as goal

pub overflow_mul-result : goal.overflow_mul-result
overflow_mul-result c =
    let h = room_fits c.args.bytes c.args.size in
    let e : c.count_of.result * c.records_of.result ≡ slot_count c.args.bytes c.args.size * slot_size c.args.size =
    ap (λ n. n * c.records_of.result) c.count_of.ensures ∙ ap (λ n. slot_count c.args.bytes c.args.size * n) c.records_of.ensures in
    omega arith
