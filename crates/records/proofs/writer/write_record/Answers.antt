use Rattle.std.proofs.Common.{◌∙◌}
use Rattle.records.proofs.Writing.{written_in}
use Rattle.records.proofs.writer.write_record.Goals as goal

pub returns-clause-after : goal.returns-clause-after
returns-clause-after c = written_in c.args.memory.now c.copy_from_slice.new.self c.args.index c.args.item c.if-index-memory.false (c.copy_from_slice.ensures.after ∙ c.from.ensures)
