use Rattle.std.proofs.Common.{take, ap, ◌∙◌}
use Rattle.std.specs.List.{slice_get}
use Rattle.tables.specs.Rows.{items}
use Rattle.tables.proofs.TableLaws.{entry_here}
use Rattle.tables.proofs.table.TableDotStore.entry.Goals as goal

pub returns : goal.returns
returns g c =
    let t = c.args.self.now in
    entry_here g.K.Kind.code (take t.len t.rows.now) c.args.part c.args.position c.if-part-ne0.false c.row_at.result
    (c.row_at.ensures ∙ ap (λ es. slice_get (items g.K.Kind.code es) c.args.position) c.used.ensures)
