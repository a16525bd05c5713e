use Rattle.reading.proofs.Rewrites.{one_spelling}
use Rattle.reading.proofs.laws.groups_have_one_spelling.Goals as goal

pub returns : goal.returns
returns c = one_spelling
