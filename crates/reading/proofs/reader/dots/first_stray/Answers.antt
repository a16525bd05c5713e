use Rattle.std.proofs.Common.{sym, ◌∙◌, subst}
use Rattle.contexts.specs.Contexts.{runs_of}
use Rattle.reading.specs.Seen.{AllSet}
use Rattle.reading.proofs.Dots.{seen, seen_more, passes, in_no_run, come_before}
use Rattle.reading.proofs.Seen.{all_come}
use Rattle.reading.proofs.reader.dots.first_stray.Goals as goal
use Rattle.reading.proofs.reader.dots.first_stray.Goals.{then-not-contains-via-then-not-contains, then-not-contains-via-else-not-contains+then-has_come}

pub returns-then-not-contains : goal.returns-then-not-contains
returns-then-not-contains c =
    let rs = runs_of c.args.context.now in
    let cuts = c.args.entries.now in
    let i = c.loop-i.i in
    let d = c.dot_in-dot.result in
    sym (elim c.then-not-contains.branch [
      | then-not-contains-via-then-not-contains w ↦ in_no_run rs cuts i d c.loop-i-test.true c.dot_in-dot.ensures (sym c.contains.ensures ∙ w.if-not-contains.true)
      | then-not-contains-via-else-not-contains+then-has_come w ↦ come_before rs cuts i d c.loop-i-test.true c.dot_in-dot.ensures (sym c.contains.ensures ∙ w.if-not-contains.false) (sym w.has_come.ensures ∙ w.if-has_come.true)
    ])
    ∙ c.loop-i.invariant.none_before

pub loop-i-preserved : goal.loop-i-preserved
loop-i-preserved c =
    let rs = runs_of c.args.context.now in
    let cuts = c.args.entries.now in
    let i = c.loop-i.i in
    let d = c.dot_in-dot.result in
    record {
      none_before = passes rs cuts i d c.loop-i-test.true c.dot_in-dot.ensures (sym c.contains.ensures ∙ c.if-not-contains.false) (sym c.has_come.ensures ∙ c.if-has_come.false) ∙ c.loop-i.invariant.none_before;
      all_set = subst (AllSet c.note.new.self.bits) (sym (seen_more rs cuts i d c.loop-i-test.true c.dot_in-dot.ensures)) (all_come (seen rs cuts i) d c.loop-i.seen.bits c.note.new.self.bits c.loop-i.invariant.all_set c.note.ensures.kept c.note.ensures.set);
    }
