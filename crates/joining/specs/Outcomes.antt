-- What a join answers, and what it leaves.
use Rattle.std.specs.Prelude.{ℕ, cond, List, Some, None, Option}
use Rattle.refusals.specs.declared.Refusal.{Refusal}
use Rattle.refusals.specs.Table.{refused}
use Rattle.contexts.specs.Contexts.{too_many}
use Rattle.kinds.specs.Kinds.{ValueKind}
use Rattle.groups.specs.Groups.{Group, joined}
use Rattle.joining.specs.declared.faults.JoinFault.{JoinFault}
use Rattle.joining.specs.declared.faults.JoinFault.TheVariants.{Overfull, TooManyRuns}
use Rattle.joining.specs.Questions.{overfull}

abbrev pub overfull_part : ℕ → Refusal
overfull_part part = refused 33 part

abbrev pub too_many_runs : Refusal
too_many_runs = refused 34 1

abbrev pub refusal_of : JoinFault → Refusal
refusal_of (Overfull part) = overfull_part part
refusal_of TooManyRuns = too_many_runs

-- the part that is overfull, if any, before the number of runs
abbrev pub first_refusal : Option ℕ → Group → Option Refusal
first_refusal (Some part) all = Some (overfull_part part)
first_refusal None all = cond (too_many all.runs) (Some too_many_runs) None

-- what is wrong with the outcome of a join, for parts of these capacities
abbrev pub outcome_refusal : List ValueKind → List ℕ → Group → Option Refusal
outcome_refusal ks caps all = first_refusal (overfull ks caps all.items) all

-- the outcome where nothing is wrong with it, and what there was where something is
abbrev pub unless : Option Refusal → Group → Group → Group
unless None all old = all
unless (Some fault) all old = old

-- the book after a group is joined to it
abbrev pub after_join : List ValueKind → List ℕ → Group → Group → Group
after_join ks caps g h = unless (outcome_refusal ks caps (joined ks g h)) (joined ks g h) g
