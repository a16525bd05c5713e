use Rattle.std.proofs.Common.{[], ◌∷◌, length, take, refl, ap, ◌∙◌, arith}
use Rattle.tables.specs.Rows.{items, usable, first_at}
use Rattle.tables.proofs.RowLaws.{struck_found, struck_none}
use Rattle.tables.proofs.Lead.{some_used, none_used}
use Rattle.tables.proofs.TableLaws.{rows_orderly}
use Rattle.stores.proofs.Stays.{orderly_strike}
use Rattle.tables.proofs.table.TableDotStore.strike.Goals as goal

pub invariant_of-self : goal.invariant_of-self
invariant_of-self g c =
    let k = g.K.Kind.kind in
    let t = c.args.self.now in
    let rows = t.rows.now in
    let d = c.args.dot in
    let n = c.remove_at.auto.rows in
    let within = t.within in
    let found = some_used d rows t.len within _ (c.in-Some.ensures ∙ ap (first_at d) c.used.ensures) in
    let in_use = found.1 in
    let after = struck_found g.K.Kind.code k rows t.len d _ within found.0 found.1 c.remove_at.new.rows c.remove_at.ensures.used t.orderly.apart in
    record { within = omega arith; orderly = rows_orderly k (length rows) _ n _ _ after (orderly_strike (k ∷ []) (usable (length rows) ∷ []) d (items g.K.Kind.code (take t.len rows)) t.orderly) }

pub returns-in-Some-clause-after : goal.returns-in-Some-clause-after
returns-in-Some-clause-after g c =
    let t = c.args.self.now in
    let found = some_used c.args.dot t.rows.now t.len t.within _ (c.in-Some.ensures ∙ ap (first_at c.args.dot) c.used.ensures) in
    struck_found g.K.Kind.code g.K.Kind.kind t.rows.now t.len c.args.dot _ t.within found.0 found.1 c.remove_at.new.rows c.remove_at.ensures.used t.orderly.apart

pub returns-in_default-clause-after : goal.returns-in_default-clause-after
returns-in_default-clause-after g c =
    let t = c.args.self.now in
    struck_none g.K.Kind.code g.K.Kind.kind t.rows.now t.len c.args.dot _ t.within refl (none_used c.args.dot t.rows.now t.len t.within (c.in_default.ensures ∙ ap (first_at c.args.dot) c.used.ensures))
