use Rattle.std.proofs.Common.{rules, tests}
use Rattle.std.proofs.lemmas.List.Sorted.{IsPartitionPoint-from_clause}
use Rattle.tables.specs.Rows.{ahead}
use Rattle.tables.proofs.Lead.{partitioned, lead_point}
use Rattle.tables.proofs.rows.position.Goals as goal

pub returns-clause-rank : goal.returns-clause-rank
returns-clause-rank g c = λ falls.
    let rows = c.args.rows.now in
    let f = ahead c.args.place c.args.dot in
    lead_point f rows _ c.partition_point.ensures.bound
    (IsPartitionPoint-from_clause f rows _ c.partition_point.ensures.partitioned (partitioned f rows falls) (λ a r f' k. search (rules, tests)))
