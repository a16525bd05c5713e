use Rattle.std.proofs.Common.{rules}
use Rattle.shelves.proofs.ReadLaws.{length_told}
use Rattle.shelves.proofs.reading.extent_length.Goals as goal

pub returns : goal.returns
returns c f = length_told f c.args.extent c.map_or.result c.map_or.ensures (λ e. e) (λ x e. search rules)
