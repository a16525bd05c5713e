-- Canonical lists of runs, as facts in the place of tests.
use Rattle.std.proofs.Common.{◌≡◌, ◌≤◌, true, ◌&&◌, List, [], ◌∷◌, refl, arith}
use Rattle.std.proofs.lemmas.Bool.Decides.{nat_tests}
use Rattle.std.proofs.lemmas.Bool.{and_parts, and_from}
use Rattle.causal.specs.declared.runs.Run.{Run}
use Rattle.causal.specs.Dots.{last_replica, last_counter}
use Rattle.causal.specs.Runs.{is_run, before, ahead, canonical}

pub record Sound (r : Run) : Type 0 where
  pub from_one : 1 ≤ r.replica
  pub replica_low : r.replica ≤ last_replica
  pub begins : 1 ≤ r.first
  pub holds : r.first ≤ r.last
  pub counter_low : r.last ≤ last_counter

pub sound_from : (r : Run) → is_run r ≡ true → Sound r
sound_from r h = record { from_one = grind (arith, nat_tests); replica_low = grind (arith, nat_tests); begins = grind (arith, nat_tests); holds = grind (arith, nat_tests); counter_low = grind (arith, nat_tests) }

pub sound_test : (r : Run) → Sound r → is_run r ≡ true
sound_test r h = grind (arith, nat_tests)

abbrev pub Ahead : Run → List Run → Type 0
Ahead r [] = Unit {0}
Ahead r (s ∷ rs) = before r s ≡ true

abbrev pub Canonical : List Run → Type 0
Canonical [] = Unit {0}
Canonical (r ∷ rs) = Sound r × Ahead r rs × Canonical rs

pub ahead_from : (r : Run) (rs : List Run) → ahead r rs ≡ true → Ahead r rs
ahead_from r [] h = tt
ahead_from r (s ∷ rs) h = h

pub ahead_test : (r : Run) (rs : List Run) → Ahead r rs → ahead r rs ≡ true
ahead_test r [] h = refl
ahead_test r (s ∷ rs) h = h

pub canonical_from : (rs : List Run) → canonical rs ≡ true → Canonical rs
canonical_from [] h = tt
canonical_from (r ∷ rs) h =
    let p = and_parts (is_run r) (ahead r rs && canonical rs) h in
    let q = and_parts (ahead r rs) (canonical rs) p.1 in
    (sound_from r p.0, ahead_from r rs q.0, canonical_from rs q.1)

pub canonical_test : (rs : List Run) → Canonical rs → canonical rs ≡ true
canonical_test [] h = refl
canonical_test (r ∷ rs) h =
    and_from (is_run r) (ahead r rs && canonical rs) (sound_test r h.0)
    (and_from (ahead r rs) (canonical rs) (ahead_test r rs h.1) (canonical_test rs h.2))
