use Rattle.stores.proofs.Lookups as laws
use Rattle.stores.proofs.laws.puts_change_one_dot.Goals as goal

pub returns : goal.returns
returns c = laws.puts_change_one_dot
