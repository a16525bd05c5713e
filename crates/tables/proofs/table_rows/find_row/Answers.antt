use Rattle.std.proofs.Common.{ap, ◌∙◌, sym, refl, arith}
use Rattle.std.specs.List.{slice_get}
use Rattle.std.specs.Option.{option_map}
use Rattle.std.proofs.lemmas.List.{length-map}
use Rattle.std.proofs.lemmas.Option.{slice_get_past}
use Rattle.stores.specs.Items.{item_of, item_at}
use Rattle.stores.proofs.Held.{lacks}
use Rattle.tables.specs.Rows.{items, lead, other}
use Rattle.tables.proofs.RowLaws.{sought}
use Rattle.tables.proofs.TableLaws.{find_is}
use Rattle.tables.proofs.Lead.{some_first, none_first}
use Rattle.tables.proofs.table_rows.find_row.Goals as goal

pub returns-in_err-seek : goal.returns-in_err-seek
returns-in_err-seek g c =
    let d = c.args.dot in
    let rows = c.args.rows.now in
    let xs = items g.K.Kind.code rows in
    let past = none_first d rows c.in_err-seek.ensures in
    let none = slice_get_past xs (lead (lacks d) xs) (omega (arith, length-map rows (item_of g.K.Kind.code 0), sought g.K.Kind.code g.K.Kind.kind d rows (lead (other d) rows) refl)) in
    ap (option_map (item_at 0)) c.from_residual.ensures ∙ sym none ∙ find_is d xs

pub returns : goal.returns
returns g c =
    let rows = c.args.rows.now in
    let xs = items g.K.Kind.code rows in
    let at = (some_first c.args.dot rows _ c.in_ok-seek.ensures).0 in
    c.row_at.ensures ∙ ap (slice_get xs) (sought g.K.Kind.code g.K.Kind.kind c.args.dot rows _ at) ∙ find_is c.args.dot xs
