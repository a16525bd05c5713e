-- The order in which a merge of two canonical lists takes their runs, and what one more run adds at the end.
use Rattle.std.specs.Prelude.{◌≡◌, max, Bool, true, false, cond, ◌&&◌, ◌||◌, List, [], ◌∷◌, ◌==◌, nat_le, nat_lt}
use Rattle.std.specs.Bool.{MatchBool}
use Rattle.causal.specs.declared.runs.Run.{Run}
use Rattle.causal.specs.Runs.{before}

-- r starts no later than s
unfoldable pub starts_by : Run → Run → Bool
starts_by r s = nat_lt r.replica s.replica || (r.replica == s.replica && nat_le r.first s.first)

-- of what is left of two lists, the left's run comes next
abbrev pub left_next : List Run → List Run → Bool
left_next [] rs = false
left_next (l ∷ ls) [] = true
left_next (l ∷ ls) (r ∷ rs) = starts_by l r

-- of what is left of two lists, r is taken, which leaves ls and rs
abbrev pub Takes : List Run → List Run → Run → List Run → List Run → Type 0
Takes left right r ls rs = MatchBool (left_next left right) ((left ≡ r ∷ ls) × (right ≡ rs)) ((left ≡ ls) × (right ≡ r ∷ rs))

-- r, carried on to the end of s where that is higher
abbrev pub stretched : Run → Run → Run
stretched r s = record { replica = r.replica; first = r.first; last = max r.last s.last }

-- one more run, which starts no earlier than those before it: it stands apart or stretches the last of them
abbrev pub extended : List Run → Run → List Run
extended [] s = s ∷ []
extended (r ∷ []) s = cond (before r s) (r ∷ s ∷ []) (stretched r s ∷ [])
extended (r ∷ q ∷ rs) s = r ∷ extended (q ∷ rs) s
