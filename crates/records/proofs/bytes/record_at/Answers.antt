use Rattle.std.proofs.Common.{replicate, unwrap_or, ap, ◌∙◌}
use Rattle.records.proofs.Copying.{looked_up}
use Rattle.records.proofs.bytes.record_at.Goals as goal

pub returns : goal.returns
returns c =
    c.unwrap_or.ensures ∙ ap (λ r. unwrap_or r (replicate 24 0)) c.copied.ensures
    ∙ looked_up c.args.bytes.now c.args.index c.as_chunks.result.0.now c.get.result c.as_chunks.ensures.front c.as_chunks.ensures.front_len c.get.ensures.lookup
