use Rattle.stores.proofs.Lookups as laws
use Rattle.stores.proofs.laws.lookups_tell_lists.Goals as goal

pub returns : goal.returns
returns c = laws.lookups_tell_lists
