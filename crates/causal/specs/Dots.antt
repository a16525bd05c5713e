-- Dots. A dot names one put: the replica that made it and that replica's count of puts.
use Rattle.std.specs.Prelude.{ℕ, Bool, cond, ◌&&◌, ◌||◌, ◌==◌, nat_le, nat_lt}
use Rattle.std.specs.declared.cmp.Ordering.TheVariants.{Less, Equal, Greater}
use Rattle.std.specs.declared.cmp.Ordering.{Ordering}
use Rattle.causal.specs.declared.dots.Dot.{Dot}

-- replicas are numbered from 1 to this
abbrev pub last_replica : ℕ
last_replica = 16

-- counters go from 1 to this
abbrev pub last_counter : ℕ
last_counter = 65535

abbrev pub is_replica : ℕ → Bool
is_replica r = nat_le 1 r && nat_le r last_replica

abbrev pub is_counter : ℕ → Bool
is_counter n = nat_le 1 n && nat_le n last_counter

abbrev pub is_dot : Dot → Bool
is_dot d = is_replica d.replica && is_counter d.counter

unfoldable pub same_dot : Dot → Dot → Bool
same_dot d e = d.replica == e.replica && d.counter == e.counter

-- by replica, then by counter
unfoldable pub dot_less : Dot → Dot → Bool
dot_less d e = nat_lt d.replica e.replica || (d.replica == e.replica && nat_lt d.counter e.counter)

-- the answer of a comparison, from whether the first is the lower and whether it is the higher
abbrev pub ranking : Bool → Bool → Ordering
ranking lower higher = cond lower Less (cond higher Greater Equal)

abbrev pub dot_order : Dot → Dot → Ordering
dot_order d e = ranking (dot_less d e) (dot_less e d)
