use Rattle.history.proofs.Law.{runs_keep_history}
use Rattle.history.proofs.laws.runs_keep_history.Goals as goal

pub returns : goal.returns
returns c = runs_keep_history
