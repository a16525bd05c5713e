use Rattle.calls.proofs.Keeping.{calls_leave}
use Rattle.calls.proofs.laws.calls_leave_the_rest.Goals as goal

pub returns : goal.returns
returns c = calls_leave
