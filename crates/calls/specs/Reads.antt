-- The calls forget and read.
use Rattle.std.specs.Prelude.{ℕ, ◌-◌, max, Bool, not, ◌&&◌, List, [], map, length, drop, nat_lt}
use Rattle.causal.specs.declared.places.Place.{Place}
use Rattle.causal.specs.Places.{is_place}
use Rattle.kinds.specs.Kinds.{ValueKind}
use Rattle.stores.specs.Faults.{bad_address}
use Rattle.stores.specs.Items.{Item}
use Rattle.groups.specs.Groups.{Group}
use Rattle.records.specs.Written.{too_short, in_front}
use Rattle.refusals.specs.Table.{refuse_if}
use Rattle.calls.specs.Faults.{not_kept}
use Rattle.calls.specs.Holdings.{Replica, Turn, turn, refuse, unless, accepted, counted}
use Rattle.calls.specs.Actions.{has_key, standing}

-- the replica without the kept groups of the steps up to t
abbrev pub without_steps : Replica → ℕ → Replica
without_steps x t = record {
  number = x.number;
  capacities = x.capacities;
  book = x.book;
  deltas = record { sizes = x.deltas.sizes; parcels = drop (t - x.forgotten) x.deltas.parcels };
  step = x.step;
  forgotten = max x.forgotten t;
  heard = x.heard;
}

-- forget: a step
abbrev pub forget : Replica → ℕ → Turn Replica
forget x t = unless (refuse_if (nat_lt x.step t) (not_kept x.forgotten)) (refuse x [] []) (turn (without_steps x t) [] [] accepted)

-- a part and a place at which an entry may stand
abbrev pub is_readable : List ValueKind → ℕ → Place → Bool
is_readable ks part place = nat_lt part (length ks) && (is_place place && has_key place)

abbrev pub codes : List Item → List ℕ
codes xs = map (λ x. x.code) xs

-- the codes that stand at a place of a book's part, by dot, into a list of numbers; x stays as it is
abbrev pub shown_at : {A : Type 0} → A → Group → ℕ → Place → List ℕ → Turn A
shown_at x b part place numbers =
    let found = codes (standing b part place) in
    unless (refuse_if (nat_lt (length numbers) (length found)) (too_short (length found))) (refuse x numbers [])
    (turn x (in_front found numbers) [] (counted (length found)))

-- read: part, place, a list of numbers
abbrev pub read : List ValueKind → Replica → ℕ → Place → List ℕ → Turn Replica
read ks x part place numbers = unless (refuse_if (not (is_readable ks part place)) bad_address) (refuse x numbers []) (shown_at x x.book part place numbers)
