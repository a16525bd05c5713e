-- Places counted round the end.
use Rattle.std.proofs.Common.{◌≡◌, ℕ, ◌+◌, ◌-◌, ◌<◌, ◌≤◌, ◌⊎◌, ◌∙◌, inl, inr, ⊎_elim, arith}
use Rattle.std.proofs.lemmas.Bool.{cond-true, cond-false, lt-ltb, le-ltb, cases_lt}
use Rattle.shelves.specs.Layout.{turn}

pub turn_below : (room start i : ℕ) → i < room - start → turn room start i ≡ start + i
unfolding turn
turn_below room start i h = cond-true _ _ _ (lt-ltb i (room - start) h)

pub turn_above : (room start i : ℕ) → room - start ≤ i → turn room start i ≡ i - (room - start)
unfolding turn
turn_above room start i h = cond-false _ _ _ (le-ltb i (room - start) h)

-- each way, with what it tells
pub turn_ways : (room start i : ℕ) → ((i < room - start) × (turn room start i ≡ start + i)) ⊎ ((room - start ≤ i) × (turn room start i ≡ i - (room - start)))
turn_ways room start i = ⊎_elim (λ h. inl (h, turn_below room start i h)) (λ h. inr (h, turn_above room start i h)) (cases_lt i (room - start))

pub turn_within : (room start i : ℕ) → start ≤ room → i < room → turn room start i < room
turn_within room start i s h = ⊎_elim (λ w. omega (arith, w.1)) (λ w. omega (arith, w.1)) (turn_ways room start i)

pub turn_upto : (room start i : ℕ) → start ≤ room → i ≤ room → turn room start i ≤ room
turn_upto room start i s h = ⊎_elim (λ w. omega (arith, w.1)) (λ w. omega (arith, w.1)) (turn_ways room start i)

-- two places are one only where they are counted alike
pub turn_apart : (room start i j : ℕ) → start ≤ room → i < room → j < room → turn room start i ≡ turn room start j → i ≡ j
turn_apart room start i j s h k e =
    ⊎_elim (λ v. ⊎_elim (λ w. omega (arith, v.1, w.1)) (λ w. omega (arith, v.1, w.1)) (turn_ways room start j))
    (λ v. ⊎_elim (λ w. omega (arith, v.1, w.1)) (λ w. omega (arith, v.1, w.1)) (turn_ways room start j)) (turn_ways room start i)

-- counting from l places on
pub turn_on : (room start l i : ℕ) → start ≤ room → l + i < room → turn room (turn room start l) i ≡ turn room start (l + i)
turn_on room start l i s h =
    let v = turn_ways room start l in
    let w = turn_ways room start (l + i) in
    let u = turn_ways room (turn room start l) i in
    grind arith

pub turn_none : (room i : ℕ) → i < room → turn room 0 i ≡ i
turn_none room i h = turn_below room 0 i (omega arith) ∙ omega arith
