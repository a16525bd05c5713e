use Rattle.reading.proofs.Rewrites.{one_spelling}
use Rattle.history.proofs.Soundness.{calls_keep_sound}
use Rattle.history.proofs.laws.calls_keep_replicas_sound.Goals as goal

pub returns : goal.returns
returns c = λ ks few. calls_keep_sound ks few (one_spelling ks)
