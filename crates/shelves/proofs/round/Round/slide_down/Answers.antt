use Rattle.std.proofs.Common.{◌+◌, ◌-◌, ap, ◌∙◌, arith}
use Rattle.shelves.specs.Layout.{slid}
use Rattle.shelves.proofs.Fills.{slid_more}
use Rattle.shelves.proofs.round.Round.slide_down.Goals as goal

pub loop-i-preserved : goal.loop-i-preserved
loop-i-preserved c =
    let i = c.loop-i.i in
    ap (λ zs. slid zs c.args.self.room c.args.self.start (c.args.at + (i + 1)) c.args.gap (c.args.count - (i + 1))) c.put_byte.ensures
    ∙ slid_more c.loop-i.bytes c.args.self.room c.args.self.start c.args.at c.args.gap i c.args.count c.byte-b.result (omega arith) c.byte-b.ensures
    ∙ c.loop-i.invariant
