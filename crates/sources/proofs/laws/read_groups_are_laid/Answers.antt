use Rattle.sources.proofs.ReadGroups.{read_groups_are_laid}
use Rattle.sources.proofs.laws.read_groups_are_laid.Goals as goal

pub returns : goal.returns
returns c = read_groups_are_laid
