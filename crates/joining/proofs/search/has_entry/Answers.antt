use Rattle.std.proofs.Common.{sym, ◌∙◌}
use Rattle.joining.proofs.search.has_entry.Goals as goal

pub returns-then-is_listed : goal.returns-then-is_listed
returns-then-is_listed g c s = c.if-is_listed.true ∙ sym (c.is_listed.ensures s c.if-is_listed.true)
