use Rattle.std.proofs.Common.{◌<◌, sym, ap, ◌∙◌, arith}
use Rattle.records.specs.Written.{records_for, record_count, written, with_record}
use Rattle.reading.proofs.ReadBack.{length_records, length_written}
use Rattle.sources.proofs.Filling.{fill_next, fill_all, no_room, room}
use Rattle.sources.proofs.writing.write_group.Goals as goal

pub returns-then-memory-needed : goal.returns-then-memory-needed
returns-then-memory-needed g c =
    let h = g.G.GroupSource.group c.args.group.now in
    let told = λ (s : g.G.GroupSource.sound c.args.group.now).
    no_room (written h c.args.origin) c.args.memory.now c.written_length-needed.result (c.written_length-needed.ensures s ∙ sym (length_written h c.args.origin)) c.if-memory-needed.true in
    record { answer = λ s. (told s).0; after = λ s. (told s).1 }

pub loop-i-preserved : goal.loop-i-preserved
loop-i-preserved g c s =
    let h = g.G.GroupSource.group c.args.group.now in
    let all = records_for h c.args.origin in
    let i = c.loop-i.i in
    let r = c.written_record.result in
    let needed = c.written_length-needed.ensures s in
    let count = length_records h c.args.origin in
    let here : i < record_count h = omega arith in
    c.write_record.ensures.after ∙ ap (λ m. with_record m i r) (c.loop-i.invariant s) ∙ fill_next all i r c.args.memory.now (omega arith) (omega arith) (c.written_record.ensures (g.G.GroupSource.writable c.args.group.now s).0 here)

pub returns : goal.returns
returns g c =
    let h = g.G.GroupSource.group c.args.group.now in
    let told = λ (s : g.G.GroupSource.sound c.args.group.now).
    room (written h c.args.origin) c.args.memory.now c.written_length-needed.result (c.written_length-needed.ensures s ∙ sym (length_written h c.args.origin)) c.if-memory-needed.false in
    record {
      answer = λ s. (told s).0;
      after = λ s.
          let needed = c.written_length-needed.ensures s in
          let count = length_records h c.args.origin in
          c.loop-i.invariant s ∙ fill_all h c.args.origin c.loop-i.i c.args.memory.now (omega arith) ∙ (told s).1;
    }
