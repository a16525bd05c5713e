use Rattle.std.proofs.Common.{ap, ◌∙◌}
use Rattle.reading.specs.Seen.{is_set}
use Rattle.reading.proofs.Seen.{tested}
use Rattle.reading.proofs.reader.seen.SeenDots.may_have.Goals as goal

pub returns : goal.returns
returns c = tested c.args.self.now.bits c.bit_of-bit.result ∙ ap (is_set c.args.self.now.bits) c.bit_of-bit.ensures.same
