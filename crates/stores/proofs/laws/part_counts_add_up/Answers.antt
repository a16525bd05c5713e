use Rattle.stores.proofs.Lookups as laws
use Rattle.stores.proofs.laws.part_counts_add_up.Goals as goal

pub returns : goal.returns
returns c = laws.part_counts_add_up
