use Rattle.stores.proofs.Lookups as laws
use Rattle.stores.proofs.laws.calls_keep_order.Goals as goal

pub returns : goal.returns
returns c = laws.calls_keep_order
