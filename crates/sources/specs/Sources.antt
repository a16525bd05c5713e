-- What every group that can be read satisfies.
use Rattle.std.specs.Prelude.{◌≡◌, ℕ, ◌*◌, ◌^◌, ◌<◌, ◌≤◌, true, List, length}
use Rattle.std.proofs.Common.{arith, length-take}
use Rattle.contexts.specs.declared.context.Context.{Context}
use Rattle.causal.specs.declared.runs.Run.{Run}
use Rattle.contexts.specs.Contexts.{most_runs, runs_of}
use Rattle.kinds.specs.Kinds.{ValueKind}
use Rattle.causal.specs.Runs.{canonical}
use Rattle.stores.specs.Items.{Item}
use Rattle.stores.specs.Sound.{FewParts, Roomy, Orderly}
use Rattle.stores.proofs.Lookups.{part_counts_add_up}
use Rattle.stores.proofs.Walking.{counts_small}
use Rattle.groups.specs.Groups.{Group}
use Rattle.records.specs.Written.{record_count}

-- its runs are in their one form, and few enough for a context
pub record Readable (g : Group) : Type 0 where
  pub one_form : canonical g.runs ≡ true
  pub few : length g.runs ≤ most_runs

-- the bytes of its written form can be counted
abbrev pub Countable : Group → Type 0
Countable g = 24 * record_count g < 2 ^ 64

-- what a store and a context hold, as a group
abbrev pub book : List Item → List Run → Group
book xs rs = record { items = xs; runs = rs }

-- it can be read
pub book_readable : (xs : List Item) (c : Context) → Readable (book xs (runs_of c))
book_readable xs c = record { one_form = c.ordered; few = (let l = length-take c.count c.runs in let f = c.few in omega arith) }

-- and its bytes can be counted where the store is in order
pub book_countable : (ks : List ValueKind) (caps : List ℕ) (xs : List Item) (c : Context) → FewParts ks → Roomy ks caps → Orderly ks caps xs → Countable (book xs (runs_of c))
book_countable ks caps xs c p r o =
    let all = part_counts_add_up ks caps xs o in
    let small = counts_small ks caps xs (length ks) r o in
    let parts = p.few in
    let runs = (book_readable xs c).few in
    omega arith
