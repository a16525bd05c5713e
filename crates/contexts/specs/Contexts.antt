-- Contexts by their runs, and what becomes of one that is united with others.
use Rattle.std.specs.Prelude.{ℕ, Bool, cond, List, [], ◌∷◌, length, take, Some, None, Option, nat_lt}
use Rattle.contexts.specs.declared.context.Context.{Context}
use Rattle.contexts.specs.declared.context.ContextFault.{ContextFault}
use Rattle.contexts.specs.declared.context.ContextFault.TheVariants.{TooManyRuns, BadRun}
use Rattle.causal.specs.declared.runs.Run.{Run}
use Rattle.causal.specs.Runs.{is_run, union}

-- a context has at most this many runs
abbrev pub most_runs : ℕ
most_runs = 96

-- the runs of a context
abbrev pub runs_of : Context → List Run
runs_of c = take c.count c.runs

abbrev pub too_many : List Run → Bool
too_many rs = nat_lt most_runs (length rs)

-- what is wrong with a union, once it is finished
abbrev pub union_fault : List Run → List Run → Option ContextFault
union_fault xs ys = cond (too_many (union xs ys)) (Some TooManyRuns) None

-- the union, or the left as it was where that has too many runs
abbrev pub bounded_union : List Run → List Run → List Run
bounded_union xs ys = cond (too_many (union xs ys)) xs (union xs ys)

-- the same for one run, which has to be well-formed
abbrev pub run_fault : List Run → Run → Option ContextFault
run_fault xs r = cond (is_run r) (union_fault xs (r ∷ [])) (Some BadRun)

abbrev pub with_run : List Run → Run → List Run
with_run xs r = cond (is_run r) (bounded_union xs (r ∷ [])) xs
