use Rattle.causal.proofs.OrderLaws as laws
use Rattle.causal.proofs.laws.orders_are_total.Goals as goal

pub returns : goal.returns
returns c = laws.orders_are_total
