-- Joins of small groups of the site book, worked out.
use Rattle.std.specs.Prelude.{◌≡◌, ℕ, List, [], ◌∷◌}
use Rattle.causal.specs.declared.dots.Dot.{Dot}
use Rattle.causal.specs.declared.places.Place.{Place}
use Rattle.causal.specs.declared.runs.Run.{Run}
use Rattle.kinds.specs.Kinds.{ValueKind}
use Rattle.kinds.specs.Models.{limit_kind, lines_kind, mark_kind}
use Rattle.causal.specs.Runs.{dot, run}
use Rattle.stores.specs.Items.{Item}
use Rattle.groups.specs.Groups.{Group, joined}

-- limits in part 0, lines in part 1, marks in part 2
abbrev pub site_kinds : List ValueKind
site_kinds = limit_kind ∷ lines_kind ∷ mark_kind ∷ []

-- the place with this key alone
abbrev pub feeder : ℕ → Place
feeder n = record { first = n; second = 0; third = 0; fourth = 0 }

-- part, feeder, dot, code
abbrev pub item : ℕ → ℕ → Dot → ℕ → Item
item part n d code = record { part = part; place = feeder n; dot = d; code = code }

-- these items, and these dots known
abbrev pub group : List Item → List Run → Group
group xs rs = record { items = xs; runs = rs }

-- a limit of feeder 12
abbrev pub limit : Dot → ℕ → Item
limit d code = item 0 12 d code

-- lines of feeder 12
abbrev pub lines : Dot → ℕ → Item
lines d code = item 1 12 d code

-- no items, and these dots known
abbrev pub bare : List Run → Group
bare rs = group [] rs

pub record JoinExamples : Type 0 where
  -- the runs of one fill the gap of the other
  pub gap_closes : joined site_kinds (bare (run 1 1 2 ∷ run 1 4 4 ∷ [])) (bare (run 1 3 3 ∷ [])) ≡ bare (run 1 1 4 ∷ [])
  -- one side still has what the other has struck
  pub struck_goes : joined site_kinds (group (limit (dot 1 1) 160 ∷ []) (run 1 1 1 ∷ [])) (bare (run 1 1 1 ∷ [])) ≡ bare (run 1 1 1 ∷ [])
  -- two set one limit without knowing of each other
  pub both_stand : joined site_kinds (group (limit (dot 1 1) 160 ∷ []) (run 1 1 1 ∷ [])) (group (limit (dot 2 1) 125 ∷ []) (run 2 1 1 ∷ []))
      ≡ group (limit (dot 1 1) 160 ∷ limit (dot 2 1) 125 ∷ []) (run 1 1 1 ∷ run 2 1 1 ∷ [])
  -- the second knew the first and struck it
  pub later_stands : joined site_kinds (group (limit (dot 1 1) 160 ∷ []) (run 1 1 1 ∷ [])) (group (limit (dot 2 1) 125 ∷ []) (run 1 1 1 ∷ run 2 1 1 ∷ []))
      ≡ group (limit (dot 2 1) 125 ∷ []) (run 1 1 1 ∷ run 2 1 1 ∷ [])
  -- amends of one limit
  pub smaller_limit : joined site_kinds (group (limit (dot 1 1) 160 ∷ []) (run 1 1 1 ∷ [])) (group (limit (dot 1 1) 125 ∷ []) (run 1 1 1 ∷ [])) ≡ group (limit (dot 1 1) 125 ∷ []) (run 1 1 1 ∷ [])
  -- amends of the same lines
  pub all_lines : joined site_kinds (group (lines (dot 1 1) 1 ∷ []) (run 1 1 1 ∷ [])) (group (lines (dot 1 1) 4 ∷ []) (run 1 1 1 ∷ [])) ≡ group (lines (dot 1 1) 5 ∷ []) (run 1 1 1 ∷ [])
  -- a clear of 1:1 beside a new set, which struck 1:1 and put 1:2
  pub set_outlives_clear : joined site_kinds (bare (run 1 1 1 ∷ [])) (group (limit (dot 1 2) 125 ∷ []) (run 1 1 2 ∷ [])) ≡ group (limit (dot 1 2) 125 ∷ []) (run 1 1 2 ∷ [])
  -- a clear of 1:1 beside an amend of it, which makes no new dot
  pub clear_outlives_amend : joined site_kinds (bare (run 1 1 1 ∷ [])) (group (limit (dot 1 1) 100 ∷ []) (run 1 1 1 ∷ [])) ≡ bare (run 1 1 1 ∷ [])
