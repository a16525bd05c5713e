use Rattle.std.proofs.Common.{◌≡◌, Err, ◌∙◌, arith, rules}
use Rattle.reading.specs.Stands.{stand_of}
use Rattle.reading.proofs.Scans.{so_far_start, so_far_fault, so_far_end, so_far_more}
use Rattle.reading.specs.Faults.{refusal_of}
use Rattle.reading.specs.Reading.{summary, first_group}
use Rattle.reading.proofs.reader.group.read_first_group.Goals as goal

pub loop-origin-init : goal.loop-origin-init
loop-origin-init g c = so_far_start g.S.DotStore.kinds c.args.journal.now (stand_of c.new-reader.result) c.new-reader.ensures

pub returns-in_err-origin : goal.returns-in_err-origin
returns-in_err-origin g c =
    let f = refusal_of c.in_err-origin.field-0.0 in
    let told : Err f ≡ summary (first_group g.S.DotStore.kinds c.args.journal.now) = so_far_fault g.S.DotStore.kinds c.args.journal.now (stand_of c.loop-origin.reader) c.loop-origin.invariant f c.in_err-origin.ensures.answer in
    search rules

pub returns-in-Origin : goal.returns-in-Origin
returns-in-Origin g c =
    let p = c.in_ok-origin.ensures in
    c.close.ensures
    ∙ so_far_end g.S.DotStore.kinds c.args.journal.now (stand_of c.loop-origin.reader) (stand_of c.next_record.new.self) c.loop-origin.invariant p.answer c.in_ok-origin.field-0 p.found p.after (omega arith) c.in-Origin.origin c.in-Origin.is

pub loop-origin-preserved : goal.loop-origin-preserved
loop-origin-preserved g c =
    let p = c.in_ok-origin.ensures in
    so_far_more g.S.DotStore.kinds c.args.journal.now (stand_of c.loop-origin.reader) (stand_of c.next_record.new.self) c.loop-origin.invariant p.answer c.in_ok-origin.field-0 p.found p.after c.in_default.not-Origin
