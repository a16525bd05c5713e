use Rattle.std.proofs.Common.{refl, ◌∙◌}
use Rattle.reading.specs.Stands.{stand_of}
use Rattle.reading.proofs.Stepping.{next_good}
use Rattle.reading.proofs.reader.GroupReader.next_record.Goals as goal

pub returns-clause-after : goal.returns-clause-after
returns-clause-after g c =
    let p = c.in_ok-item.ensures in
    let r = c.args.self.now in
    c.move_past.ensures r.bytes.now ∙ next_good g.S.DotStore.kinds (stand_of r) c.in_ok-item.item r.progress.context.ordered (p.counts refl) p.answer p.found
