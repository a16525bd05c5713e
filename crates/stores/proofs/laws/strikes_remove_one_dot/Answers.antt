use Rattle.stores.proofs.Lookups as laws
use Rattle.stores.proofs.laws.strikes_remove_one_dot.Goals as goal

pub returns : goal.returns
returns c = laws.find_strike
