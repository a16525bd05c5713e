use Rattle.std.proofs.Common.{◌≡◌, true, false, is_some, refl, rules, arith}
use Rattle.std.proofs.lemmas.Iterator.{YieldsList-from_range, IsFirst-from_position}
use Rattle.sources.specs.Layouts.{entry_part, record_in}
use Rattle.sources.proofs.Lists.{leads_told}
use Rattle.sources.proofs.laid_group.leading_entries.Goals as goal

pub returns-clause-leads : goal.returns-clause-leads
returns-clause-leads g c =
    let f = record_in (g.R.RecordList.bytes c.args.records.now) in
    let n = c.args.count in
    leads_told f n c.position.result c.unwrap_or.result c.unwrap_or.ensures
    (IsFirst-from_position c.position.new.self _ _ (λ i. is_some (entry_part (f i)) ≡ false) (λ i. is_some (entry_part (f i)) ≡ true) c.position.ensures.ran
    (YieldsList-from_range 0 n n refl (omega arith)) (λ i q k. search rules) (λ i q k. search rules))
