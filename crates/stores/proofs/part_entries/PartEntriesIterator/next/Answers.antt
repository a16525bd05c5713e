use Rattle.std.proofs.Common.{map, filter, length, sym, ap, subst, arith, rules}
use Rattle.std.specs.Iterator.{YieldsFirst}
use Rattle.stores.specs.Items.{in_part, item_at, entry_of}
use Rattle.stores.specs.PartEntries.{entries_left}
use Rattle.stores.proofs.Walking.{drop_nth, drop_past, within_part}
use Rattle.stores.proofs.part_entries.PartEntriesIterator.next.Goals as goal

pub returns-in_err-entry-clause-steps : goal.returns-in_err-entry-clause-steps
returns-in_err-entry-clause-steps g c =
    let s = c.args.self.now in
    let e = ap (map entry_of) (drop_past (filter (in_part s.part) (g.S.DotStore.entries s.store.now)) s.position c.in_err-entry.ensures) in
    subst (λ r. YieldsFirst (entries_left g.S.DotStore.entries) s r s) (sym c.from_residual.ensures) (e, e)

pub overflow_add-self : goal.overflow_add-self
overflow_add-self g c =
    let S = g.S.DotStore in
    let s = c.args.self.now in
    let t = s.store.now in
    let w = within_part S.kinds (S.capacities t) (S.entries t) s.part s.position _ (S.roomy t) (S.orderly t) c.in_ok-entry.ensures in
    omega arith

pub returns-clause-steps : goal.returns-clause-steps
returns-clause-steps g c =
    let s = c.args.self.now in
    let ys = filter (in_part s.part) (g.S.DotStore.entries s.store.now) in
    ap (map entry_of) (drop_nth ys s.position (item_at s.part c.in_ok-entry.entry) c.in_ok-entry.ensures)

pub returns-clause-goes : goal.returns-clause-goes
returns-clause-goes g c =
    let s = c.args.self.now in
    let ys = filter (in_part s.part) (g.S.DotStore.entries s.store.now) in
    let e = ap (λ zs. length (map entry_of zs)) (drop_nth ys s.position (item_at s.part c.in_ok-entry.entry) c.in_ok-entry.ensures) in
    search rules
