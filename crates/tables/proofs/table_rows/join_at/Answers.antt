use Rattle.std.proofs.Common.{◌≡◌, true, false, set, sym, ap, ◌∙◌, rules}
use Rattle.causal.specs.Places.{same_place}
use Rattle.std.proofs.lemmas.List.{get_or_read}
use Rattle.stores.specs.declared.entries.Entry.{Entry}
use Rattle.tables.specs.Rows.{items}
use Rattle.tables.proofs.RowLaws.{joined_items, unjoined_items}
use Rattle.tables.proofs.table_rows.join_at.Goals as goal

pub returns-then-eq-clause-joined : goal.returns-then-eq-clause-joined
unfolding same_place
returns-then-eq-clause-joined g c =
    let rows = c.args.rows.now in
    let at = c.args.at in
    let old = c.index-rows-at.result in
    let same : same_place old.place c.args.row.place ≡ true = search rules in
    ap (λ (o : Entry g.row.K.Denot). items g.K.Kind.code (set rows at (record { place = o.place; dot = o.dot; value = c.join.result })))
    (sym (get_or_read rows at old c.requires c.index-rows-at.is c.index-rows-at-then-eq.result))
    ∙ joined_items g.K.Kind.code g.K.Kind.kind rows at old c.args.row c.join.result c.requires c.index-rows-at.is same c.join.ensures

pub returns-else-eq-clause-joined : goal.returns-else-eq-clause-joined
unfolding same_place
returns-else-eq-clause-joined g c =
    let other : same_place c.index-rows-at.result.place c.args.row.place ≡ false = search rules in
    unjoined_items g.K.Kind.code g.K.Kind.kind c.args.rows.now c.args.at c.index-rows-at.result c.args.row c.requires c.index-rows-at.is other
