use Rattle.std.proofs.Common.{◌≡◌, ◌+◌, ◌<◌, length, take, set, ap, ◌∙◌, arith}
use Rattle.std.proofs.lemmas.List.{length-take-le}
use Rattle.contexts.specs.Merging.{extended}
use Rattle.contexts.proofs.Merges.{stretches, stands_apart, stands_first}
use Rattle.contexts.proofs.context.union.Merged.add.Goals as goal
use Rattle.contexts.proofs.context.union.Merged.add.Goals.{then-self-gt0+else-not-ends_before, else-self-gt0}

pub returns-then-not-ends_before : goal.returns-then-not-ends_before
returns-then-not-ends_before c =
    stretches c.self.inside.runs c.self.inside.count c.max.result c.args.run c.if-self-gt0.true (omega arith) c.if-not-ends_before.ensures c.max.ensures
    ∙ ap (λ zs. extended zs c.args.run) c.self.view_is

pub returns : goal.returns
returns c =
    let rs = c.self.inside.runs in
    let n = c.self.inside.count in
    let room : n < length rs = omega (arith, ap length c.self.view_is, length-take-le n rs) in
    elim c.if-self-gt0.branch as (λ _. take (n + 1) (set rs n c.args.run) ≡ extended (take n rs) c.args.run) [
      | then-self-gt0+else-not-ends_before w ↦ stands_apart rs n c.args.run w.if-self-gt0.true room w.if-not-ends_before.ensures
      | else-self-gt0 w ↦ stands_first rs n c.args.run w.if-self-gt0.false room
    ]
    ∙ ap (λ zs. extended zs c.args.run) c.self.view_is
