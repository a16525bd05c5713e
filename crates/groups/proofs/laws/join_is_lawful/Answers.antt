use Rattle.groups.proofs.Converges.{join_is_lawful}
use Rattle.groups.proofs.laws.join_is_lawful.Goals as goal

pub returns : goal.returns
returns c = join_is_lawful
