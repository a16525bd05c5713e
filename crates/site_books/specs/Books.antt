-- The site book: limits of feeders, lines of sockets and marks, a table for each.
use Rattle.std.specs.Prelude.{List, [], ◌∷◌, ℕ, length, take}
use Rattle.kinds.specs.declared.limit.Limit.{Limit}
use Rattle.kinds.specs.declared.lines.Lines.{Lines}
use Rattle.kinds.specs.declared.mark.Mark.{Mark}
use Rattle.stores.specs.declared.entries.Entry.{Entry}
use Rattle.stores.specs.Items.{Item}
use Rattle.tables.specs.Rows.{items, usable}
use Rattle.pairs.specs.Pairs.{both}

-- the codes of limits, lines and marks
abbrev pub limit_code : Limit → ℕ
limit_code v = v.amps

abbrev pub lines_code : Lines → ℕ
lines_code v = v.bits

abbrev pub mark_code : Mark → ℕ
mark_code v = 0

-- the capacities of the three parts, in these rows
abbrev pub book_room : List (Entry Limit) → List (Entry Lines) → List (Entry Mark) → List ℕ
book_room limits lines marks = usable (length limits) ∷ usable (length lines) ∷ usable (length marks) ∷ []

-- what the rows hold, of which n, m and k are in use
module _ (n : ℕ) (limits : List (Entry Limit)) (m : ℕ) (lines : List (Entry Lines)) (k : ℕ) (marks : List (Entry Mark)) where
  -- the items of all three parts
  abbrev pub book_items : List Item
  book_items = both 1 (items limit_code (take n limits)) (both 1 (items lines_code (take m lines)) (items mark_code (take k marks)))
