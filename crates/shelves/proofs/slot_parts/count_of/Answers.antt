use Rattle.shelves.proofs.SlotSizes.{count_is}
use Rattle.shelves.proofs.slot_parts.count_of.Goals as goal

pub returns : goal.returns
returns c = count_is c.args.bytes c.args.size c.records_of.result c.min.result c.records_of.ensures c.min.ensures
