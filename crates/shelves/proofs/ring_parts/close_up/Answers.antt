use Rattle.std.proofs.Common.{◌+◌, ◌-◌, drop, ap, ◌∙◌, arith}
use Rattle.shelves.specs.Layout.{byte}
use Rattle.shelves.proofs.Turns.{turn_upto}
use Rattle.shelves.proofs.Written.{closed_front, closed_middle, slid_spare}
use Rattle.shelves.proofs.ring_parts.close_up.Goals as goal

pub returns-then-extent-eq0-clause-moved : goal.returns-then-extent-eq0-clause-moved
returns-then-extent-eq0-clause-moved c i h =
    let r = c.args.round in
    let e = c.args.extent in
    ap (λ b. byte c.args.bytes.now r.room b i) c.place.ensures ∙ closed_front c.args.bytes.now r.room r.start e.from e.length i r.begins c.if-extent-eq0.true (omega arith)

pub returns-then-extent-eq0-clause-begins : goal.returns-then-extent-eq0-clause-begins
returns-then-extent-eq0-clause-begins c = let r = c.args.round in omega (arith, turn_upto r.room r.start c.args.extent.length r.begins (omega arith))

pub returns-clause-moved : goal.returns-clause-moved
returns-clause-moved c i h =
    let r = c.args.round in
    let e = c.args.extent in
    closed_middle c.args.bytes.now c.slide_down.new.bytes r.room r.start e.from e.length c.args.held i r.begins (omega arith) (omega arith) (omega arith) h c.slide_down.ensures

pub returns-clause-spare : goal.returns-clause-spare
returns-clause-spare c =
    let r = c.args.round in
    let e = c.args.extent in
    ap (drop r.room) c.slide_down.ensures ∙ slid_spare c.args.bytes.now r.room r.start e.from e.length (c.args.held - (e.from + e.length)) r.begins (omega arith)
