use Rattle.std.proofs.Common.{length, sym, ap, ◌∙◌}
use Rattle.shelves.specs.Layout.{byte}
use Rattle.shelves.specs.Parcels.{copy_answer, copy_memory}
use Rattle.shelves.specs.Extents.{parcel_in}
use Rattle.shelves.proofs.ReadLaws.{answer_short, memory_short}
use Rattle.shelves.proofs.reading.copy_parcel.Goals as goal

pub returns-then-extent-memory-clause-answer : goal.returns-then-extent-memory-clause-answer
returns-then-extent-memory-clause-answer c =
    let e = c.in_ok-extent.extent in
    let f = byte c.args.bytes.now c.args.round.room c.args.round.start in
    let n = length c.args.memory.now in
    sym (ap (λ o. copy_answer (parcel_in f o) c.args.position n) c.in_ok-extent.ensures.ok_part ∙ answer_short f e.from e.length c.args.position n c.if-extent-memory.true)

pub returns-then-extent-memory-clause-memory : goal.returns-then-extent-memory-clause-memory
returns-then-extent-memory-clause-memory c =
    let e = c.in_ok-extent.extent in
    let f = byte c.args.bytes.now c.args.round.room c.args.round.start in
    sym (ap (λ o. copy_memory (parcel_in f o) c.args.memory.now) c.in_ok-extent.ensures.ok_part ∙ memory_short f e.from e.length c.args.memory.now c.if-extent-memory.true)
