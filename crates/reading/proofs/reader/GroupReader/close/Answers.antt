use Rattle.std.proofs.Common.{Some, None, Ok, sym, ◌∙◌}
use Rattle.reading.specs.Stands.{stand_of}
use Rattle.reading.proofs.Dots.{closed_by}
use Rattle.reading.proofs.reader.GroupReader.close.Goals as goal

pub returns-in-Some : goal.returns-in-Some
returns-in-Some c = closed_by (stand_of c.args.self.now) c.args.origin c.as_chunks.result.0.now c.entry_count-entries.result (Some c.in-Some.index) c.as_chunks.ensures.front c.as_chunks.ensures.front_len c.entry_count-entries.ensures c.in-Some.ensures

pub returns : goal.returns
returns c =
    (λ i. Ok (record { origin = c.args.origin; entries = c.entry_count-entries.result; runs = c.run_count.ensures i; length = c.saturating_mul.ensures i }))
    ∙ closed_by (stand_of c.args.self.now) c.args.origin c.as_chunks.result.0.now c.entry_count-entries.result None c.as_chunks.ensures.front c.as_chunks.ensures.front_len c.entry_count-entries.ensures (sym c.in_default.is ∙ c.first_stray.ensures)
