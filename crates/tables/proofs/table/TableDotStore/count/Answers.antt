use Rattle.std.proofs.Common.{take, sym, ap, ◌∙◌}
use Rattle.stores.specs.Items.{count_part}
use Rattle.tables.specs.Rows.{items}
use Rattle.tables.proofs.TableLaws.{count_used}
use Rattle.tables.proofs.table.TableDotStore.count.Goals as goal

pub returns-then-part-eq0 : goal.returns-then-part-eq0
returns-then-part-eq0 g c =
    let t = c.args.self.now in
    sym (ap (λ p. count_part p (items g.K.Kind.code (take t.len t.rows.now))) c.if-part-eq0.true ∙ count_used g.K.Kind.code t.rows.now t.len t.within)
