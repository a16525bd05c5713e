-- Runs of dots, and lists of runs: which dots such a list has, its one canonical form, and the union of two.
use Rattle.std.specs.Prelude.{ℕ, ◌+◌, min, max, Bool, true, false, cond, ◌&&◌, ◌||◌, List, [], ◌∷◌, Some, None, Option, ◌==◌, nat_le, nat_lt}
use Rattle.causal.specs.declared.dots.Dot.{Dot}
use Rattle.causal.specs.declared.runs.Run.{Run}
use Rattle.causal.specs.Dots.{is_replica, last_counter}

-- a run holds the dots of one replica from its first counter to its last; well-formed, it holds well-formed dots, one at least
abbrev pub is_run : Run → Bool
is_run r = is_replica r.replica && (nat_le 1 r.first && (nat_le r.first r.last && nat_le r.last last_counter))

-- the dot d stands in the run r
unfoldable pub in_run : Run → Dot → Bool
in_run r d = r.replica == d.replica && (nat_le r.first d.counter && nat_le d.counter r.last)

-- the dot d stands in one of the runs
abbrev pub has : List Run → Dot → Bool
has [] d = false
has (r ∷ rs) d = in_run r d || has rs d

-- r ends before s begins, with a dot between them that is in neither
unfoldable pub before : Run → Run → Bool
before r s = nat_lt r.replica s.replica || (r.replica == s.replica && nat_lt (r.last + 1) s.first)

-- r comes before the first of the runs rs, if there is one
abbrev pub ahead : Run → List Run → Bool
ahead r [] = true
ahead r (s ∷ rs) = before r s

-- well-formed runs, ascending, with a gap between runs of one replica
abbrev pub canonical : List Run → Bool
canonical [] = true
canonical (r ∷ rs) = is_run r && (ahead r rs && canonical rs)

-- the run from the lower first counter to the higher last one
unfoldable pub hull : Run → Run → Run
hull r s = record { replica = r.replica; first = min r.first s.first; last = max r.last s.last }

-- the run joined to every run that it overlaps or touches
abbrev pub insert : Run → List Run → List Run
insert r [] = r ∷ []
insert r (s ∷ rs) = elim (before r s) [ true ↦ r ∷ s ∷ rs | false ↦ elim (before s r) [ true ↦ s ∷ insert r rs | false ↦ insert (hull r s) rs ] ]

abbrev pub union : List Run → List Run → List Run
union [] ys = ys
union (x ∷ xs) ys = insert x (union xs ys)

-- the highest counter of a replica, 0 if there is none
abbrev pub highest : ℕ → List Run → ℕ
highest n [] = 0
highest n (r ∷ rs) = cond (r.replica == n) (max r.last (highest n rs)) (highest n rs)

abbrev pub dot : ℕ → ℕ → Dot
dot r c = record { replica = r; counter = c }

abbrev pub run : ℕ → ℕ → ℕ → Run
run r a b = record { replica = r; first = a; last = b }

-- the run of one dot
abbrev pub single : Dot → Run
single d = run d.replica d.counter d.counter

-- the last of a list, if there is one
abbrev pub last : {X : Type 0} → List X → Option X
last [] = None
last (x ∷ []) = Some x
last (x ∷ y ∷ ys) = last (y ∷ ys)
