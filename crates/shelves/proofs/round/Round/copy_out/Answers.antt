use Rattle.std.proofs.Common.{take, set, ap, ◌∙◌, arith}
use Rattle.shelves.specs.Layout.{byte}
use Rattle.shelves.proofs.Fills.{fill_by_one}
use Rattle.shelves.proofs.round.Round.copy_out.Goals as goal

pub loop-i-preserved : goal.loop-i-preserved
loop-i-preserved c =
    let i = c.loop-i.i in
    let f = byte c.args.bytes.now c.args.self.room c.args.self.start in
    ap (λ zs. set zs i c.byte.result) c.loop-i.invariant
    ∙ fill_by_one f c.args.extent.from i c.byte.result (take c.args.extent.length c.args.memory.now) (omega arith) c.byte.ensures
