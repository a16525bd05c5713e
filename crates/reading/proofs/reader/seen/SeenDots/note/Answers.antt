use Rattle.std.proofs.Common.{sym, ap, ◌∙◌, arith}
use Rattle.reading.specs.Seen.{is_set}
use Rattle.reading.proofs.Seen.{note_sets, note_keeps}
use Rattle.reading.proofs.reader.seen.SeenDots.note.Goals as goal

pub returns-clause-set : goal.returns-clause-set
returns-clause-set c = ap (is_set _) (sym c.bit_of-bit.ensures.same) ∙ note_sets c.args.self.now.bits c.bit_of-bit.result (omega (arith, c.bit_of-bit.ensures.within))

pub returns-clause-kept : goal.returns-clause-kept
returns-clause-kept c = note_keeps c.args.self.now.bits c.bit_of-bit.result (omega (arith, c.bit_of-bit.ensures.within))
