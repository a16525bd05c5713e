use Rattle.std.proofs.Common.{rules}
use Rattle.shelves.proofs.SlotCalls.{slots_gave}
use Rattle.shelves.proofs.slots.SlotsShelf.remove.Goals as goal

pub invariant_of-self : goal.invariant_of-self
invariant_of-self c =
    record { sound = (slots_gave c.args.self.now c.args.position c.rotate_left.new.self c.if-position-count.false (search rules) c.rotate_left.ensures.after).stays }

pub returns-clause-after : goal.returns-clause-after
returns-clause-after c = (slots_gave c.args.self.now c.args.position c.rotate_left.new.self c.if-position-count.false (search rules) c.rotate_left.ensures.after).parcels
