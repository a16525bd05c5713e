use Rattle.std.proofs.Common.{◌^◌, ◌<◌, length, Ok, refl, ap, ◌∙◌, arith}
use Rattle.reading.specs.Reading.{first_group}
use Rattle.sources.proofs.ReadGroups.{first_answers}
use Rattle.sources.proofs.read_groups.journal_group.Goals as goal

pub returns : goal.returns
returns g c =
    let ks = g.S.DotStore.kinds in
    let bytes = c.args.journal.now in
    let p = c.placed.ensures in
    let small : length bytes < 2 ^ 64 = omega arith in
    first_answers ks bytes small c.placed.result p.memory (p.entries ∙ ap (λ s. s.entries) (mathlib.Core.Path.sym p.summary)) (p.runs ∙ ap (λ s. s.runs) (mathlib.Core.Path.sym p.summary))
    (first_group ks bytes) refl (ap Ok p.summary ∙ c.in_ok-summary.ensures)
