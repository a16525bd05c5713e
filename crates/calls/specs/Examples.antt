-- Calls worked out by hand from the rules, on the site book: limits in part 0, lines in part 1, marks in part 2.
use Rattle.std.specs.Prelude.{◌≡◌, ℕ, zero, suc, ◌+◌, ◌-◌, ◌/◌, ◌%◌, List, [], ◌∷◌, ◌++◌, length, replicate}
use Rattle.refusals.specs.Table.{refused}
use Rattle.shelves.specs.Parcels.{Sizes}
use Rattle.causal.specs.declared.runs.Run.{Run}
use Rattle.causal.specs.Runs.{dot, run}
use Rattle.stores.specs.Items.{Item}
use Rattle.groups.specs.Groups.{Group, empty}
use Rattle.groups.specs.Examples.{site_kinds, feeder, item, group, limit, bare}
use Rattle.calls.specs.Holdings.{Shelf, Replica, Work, fresh, old, wrote, arrived, absorbed, accepted, counted, turn, refuse}
use Rattle.calls.specs.Edits.{edit}
use Rattle.calls.specs.Ships.{ship, ship_whole}
use Rattle.calls.specs.Arrivals.{deliver, absorb}
use Rattle.calls.specs.Links.{lose, repeat}
use Rattle.calls.specs.Reads.{forget, read}

-- records in bytes; numbers that take more than one byte are below 65,536

abbrev pub low : ℕ → List ℕ
low n = n / 256 ∷ n % 256 ∷ []

-- tag, part, feeder, code
abbrev pub action : ℕ → ℕ → ℕ → ℕ → List ℕ
action tag part n code = tag ∷ part ∷ replicate 6 0 ++ low n ++ replicate 12 0 ++ low code

-- part, replica, counter, feeder, code
abbrev pub entry : ℕ → ℕ → ℕ → ℕ → ℕ → List ℕ
entry part r c n code = 1 ∷ part ∷ r ∷ 0 ∷ low c ++ replicate 2 0 ++ low n ++ replicate 12 0 ++ low code

abbrev pub known : ℕ → ℕ → ℕ → List ℕ
known r a b = 2 ∷ 0 ∷ r ∷ 0 ∷ low a ++ low b ++ replicate 16 0

abbrev pub from : ℕ → ℕ → ℕ → List ℕ
from r since until = 3 ∷ 0 ∷ r ∷ replicate 7 0 ++ low since ++ replicate 2 0 ++ low until ++ replicate 8 0

-- replicas, links and work stores

abbrev pub sizes : ℕ → ℕ → ℕ → Sizes
sizes most longest room = record { most = most; longest = longest; room = room }

abbrev pub large : Sizes
large = sizes 128 500 500

abbrev pub shelf : List (List ℕ) → Shelf
shelf ps = record { sizes = large; parcels = ps }

-- no parcel at all
abbrev pub shut : Shelf
shut = record { sizes = sizes 128 0 0; parcels = [] }

abbrev pub none_heard : List ℕ
none_heard = replicate 16 0

-- heard of replica 1 only
abbrev pub heard_one : ℕ → List ℕ
heard_one n = n ∷ replicate 15 0

-- two entries a part; number, book, kept groups, step, heard
abbrev pub replica : ℕ → Group → List (List ℕ) → ℕ → List ℕ → Replica
replica n b kept step heard = record { number = n; capacities = 2 ∷ 2 ∷ 2 ∷ []; book = b; deltas = shelf kept; step = step; forgotten = 0; heard = heard }

abbrev pub new : ℕ → Replica
new n = replica n empty [] 0 none_heard

-- a work store of these capacities, in which something lies
abbrev pub left_over : List Item
left_over = item 2 9 (dot 9 9) 0 ∷ []

abbrev pub work : List ℕ → Work
work capacities = record { capacities = capacities; items = left_over }

abbrev pub bench : Work
bench = work (2 ∷ 2 ∷ 2 ∷ [])

-- memory of so many bytes
abbrev pub memory : ℕ → List ℕ
memory n = replicate n 7

-- so many runs of one dot each, 2:1, 2:3, 2:5 and so on
abbrev pub lone_from : ℕ → ℕ → List Run
lone_from c zero = []
lone_from c (suc n) = run 2 c c ∷ lone_from (c + 2) n

abbrev pub lone : ℕ → List Run
lone n = lone_from 1 n

-- limits of feeder 12 at the dots 2:1, 2:3, 2:5 and so on
abbrev pub lone_limits : ℕ → ℕ → List Item
lone_limits c zero = []
lone_limits c (suc n) = limit (dot 2 c) 5 ∷ lone_limits (c + 2) n

-- the runs 2:1, 2:3 and so on as records
abbrev pub lone_known : ℕ → ℕ → List ℕ
lone_known c zero = []
lone_known c (suc n) = known 2 c c ++ lone_known (c + 2) n

-- the group of a first set: 160 amps for feeder 12 at 1:1
abbrev pub first : List ℕ
first = entry 0 1 1 12 160 ++ known 1 1 1 ++ from 1 0 1

abbrev pub one_limit : Group
one_limit = group (limit (dot 1 1) 160 ∷ []) (run 1 1 1 ∷ [])

pub record WorkedEdits : Type 0 where
  pub sets : edit site_kinds (new 1) 1 (action 5 0 12 160) bench (memory 80) ≡ turn (replica 1 one_limit (first ∷ []) 1 none_heard) (first ++ memory 8) [] (wrote 72)
  -- two parts in one edit
  pub sets_two : edit site_kinds (new 1) 1 (action 5 0 12 160 ++ action 5 1 12 7) bench (memory 96)
      ≡ (let bytes = entry 0 1 1 12 160 ++ entry 1 1 2 12 7 ++ known 1 1 2 ++ from 1 0 1 in
      turn (replica 1 (group (limit (dot 1 1) 160 ∷ item 1 12 (dot 1 2) 7 ∷ []) (run 1 1 2 ∷ [])) (bytes ∷ []) 1 none_heard) bytes [] (wrote 96))
  -- set 160, set 125, amend with 100: the first dot is dead, the second has 100
  pub sets_again : edit site_kinds (new 1) 1 (action 5 0 12 160 ++ action 5 0 12 125 ++ action 7 0 12 100) bench (memory 72)
      ≡ (let bytes = entry 0 1 2 12 100 ++ known 1 1 2 ++ from 1 0 1 in
      turn (replica 1 (group (limit (dot 1 2) 100 ∷ []) (run 1 1 2 ∷ [])) (bytes ∷ []) 1 none_heard) bytes [] (wrote 72))
  pub clears : edit site_kinds (replica 1 one_limit (first ∷ []) 1 none_heard) 1 (action 6 0 0 0) bench (memory 48)
      ≡ (let bytes = known 1 1 1 ++ from 1 1 2 in
      turn (replica 1 (bare (run 1 1 1 ∷ [])) (first ∷ bytes ∷ []) 2 none_heard) bytes [] (wrote 48))
  pub clears_nothing : edit site_kinds (new 1) 1 (action 6 0 12 0) bench (memory 24) ≡ turn (replica 1 empty (from 1 0 1 ∷ []) 1 none_heard) (from 1 0 1) [] (wrote 24)
  pub amends : edit site_kinds (replica 2 one_limit [] 0 (heard_one 1)) 2 (action 7 0 12 125) bench (memory 72)
      ≡ (let bytes = entry 0 1 1 12 125 ++ known 1 1 1 ++ from 2 0 1 in
      turn (replica 2 (group (limit (dot 1 1) 125 ∷ []) (run 1 1 1 ∷ [])) (bytes ∷ []) 1 (heard_one 1)) bytes [] (wrote 72))
  -- a full part: what a set puts a clear in the same edit strikes
  pub full_saved : edit site_kinds (record { number = 1; capacities = 1 ∷ []; book = one_limit; deltas = shelf []; step = 1; forgotten = 1; heard = none_heard }) 1 (action 5 0 13 9 ++ action 6 0 13 0) bench (memory 48)
      ≡ (let bytes = known 1 2 2 ++ from 1 1 2 in
      turn (record { number = 1; capacities = 1 ∷ []; book = group (limit (dot 1 1) 160 ∷ []) (run 1 1 2 ∷ []); deltas = shelf (bytes ∷ []); step = 2; forgotten = 1; heard = none_heard }) bytes [] (wrote 48))
  -- refused, and nothing touched
  pub another_pen : edit site_kinds (new 1) 2 [] bench (memory 72) ≡ refuse (new 1) (memory 72) left_over (refused 39 2)
  pub thirty_bytes : edit site_kinds (new 1) 1 (memory 30) bench (memory 72) ≡ refuse (new 1) (memory 72) left_over (refused 35 1)
  pub no_actions : edit site_kinds (new 1) 1 [] bench (memory 72) ≡ refuse (new 1) (memory 72) left_over (refused 35 0)
  pub nine_actions : edit site_kinds (new 1) 1 (memory 216) bench (memory 72) ≡ refuse (new 1) (memory 72) left_over (refused 35 9)
  -- a part that is not there comes before a code that does not fit
  pub no_such_part : edit site_kinds (new 1) 1 (action 5 0 12 9999 ++ action 5 5 12 1) bench (memory 72) ≡ refuse (new 1) (memory 72) left_over (refused 35 1)
  pub set_at_depth_0 : edit site_kinds (new 1) 1 (action 5 0 0 9) bench (memory 72) ≡ refuse (new 1) (memory 72) left_over (refused 35 0)
  pub clear_with_a_code : edit site_kinds (new 1) 1 (action 6 0 12 9) bench (memory 72) ≡ refuse (new 1) (memory 72) left_over (refused 35 0)
  pub no_such_action : edit site_kinds (new 1) 1 (action 5 0 12 9 ++ action 8 0 12 9) bench (memory 72) ≡ refuse (new 1) (memory 72) left_over (refused 35 1)
  -- refused, and the work store is empty
  pub unfit_code : edit site_kinds (new 1) 1 (action 7 0 12 5 ++ action 5 1 12 8) bench (memory 72) ≡ refuse (new 1) (memory 72) [] (refused 23 1)
  pub nothing_to_amend : edit site_kinds (new 1) 1 (action 5 0 12 5 ++ action 5 0 13 5 ++ action 7 0 14 5) (work (1 ∷ [])) (memory 72) ≡ refuse (new 1) (memory 72) [] (refused 36 2)
  pub no_counter_left : edit site_kinds (replica 1 (bare (run 1 65535 65535 ∷ [])) [] 0 none_heard) 1 (action 6 0 12 0 ++ action 5 0 12 5) bench (memory 72)
      ≡ refuse (replica 1 (bare (run 1 65535 65535 ∷ [])) [] 0 none_heard) (memory 72) [] (refused 37 1)
  pub no_step_left : edit site_kinds (replica 1 empty [] 4294967295 none_heard) 1 (action 6 0 12 0 ++ action 5 0 12 5) bench (memory 72)
      ≡ refuse (replica 1 empty [] 4294967295 none_heard) (memory 72) [] (refused 37 2)
  -- the clear does not save the first joining
  pub no_room_to_join : edit site_kinds (new 1) 1 (action 5 0 12 5 ++ action 6 0 12 0) (work (0 ∷ 9 ∷ [])) (memory 72) ≡ refuse (new 1) (memory 72) [] (refused 40 0)
  -- 97 lone dots struck at once
  pub many_struck : edit site_kinds (replica 1 (group (lone_limits 1 97) (run 2 1 193 ∷ [])) [] 0 none_heard) 1 (action 6 0 12 0) bench (memory 72)
      ≡ refuse (replica 1 (group (lone_limits 1 97) (run 2 1 193 ∷ [])) [] 0 none_heard) (memory 72) [] (refused 34 0)
  pub part_is_full : edit site_kinds (replica 1 (group (limit (dot 2 1) 5 ∷ limit (dot 3 1) 5 ∷ []) (run 2 1 1 ∷ run 3 1 1 ∷ [])) [] 0 none_heard) 1 (action 5 0 13 5) bench (memory 72)
      ≡ refuse (replica 1 (group (limit (dot 2 1) 5 ∷ limit (dot 3 1) 5 ∷ []) (run 2 1 1 ∷ run 3 1 1 ∷ [])) [] 0 none_heard) (memory 72) [] (refused 33 0)
  -- 96 runs in the book, and one more
  pub many_runs : edit site_kinds (replica 1 (bare (lone 96)) [] 0 none_heard) 1 (action 5 0 12 5) bench (memory 72) ≡ refuse (replica 1 (bare (lone 96)) [] 0 none_heard) (memory 72) [] (refused 34 1)
  pub short_output : edit site_kinds (new 1) 1 (action 5 0 12 160 ++ action 5 1 12 7) bench (memory 95) ≡ refuse (new 1) (memory 95) [] (refused 41 96)
  -- the output holds what the delta shelf did not take
  pub shelf_is_full : edit site_kinds (record { number = 1; capacities = 2 ∷ 2 ∷ 2 ∷ []; book = empty; deltas = shut; step = 0; forgotten = 0; heard = none_heard }) 1 (action 5 0 12 160) bench (memory 80)
      ≡ refuse (record { number = 1; capacities = 2 ∷ 2 ∷ 2 ∷ []; book = empty; deltas = shut; step = 0; forgotten = 0; heard = none_heard }) (first ++ memory 8) [] (refused 13 3)

-- replica 1 after two edits: 160 for feeder 12, then 125
abbrev pub second : List ℕ
second = entry 0 1 2 12 125 ++ known 1 1 2 ++ from 1 1 2

abbrev pub later : Group
later = group (limit (dot 1 2) 125 ∷ []) (run 1 1 2 ∷ [])

abbrev pub twice : Replica
twice = replica 1 later (first ∷ second ∷ []) 2 none_heard

-- with the first step forgotten
abbrev pub forgetful : Replica
forgetful = record { number = 1; capacities = 2 ∷ 2 ∷ 2 ∷ []; book = later; deltas = shelf (second ∷ []); step = 2; forgotten = 1; heard = none_heard }

pub record WorkedShips : Type 0 where
  pub ships_all : ship site_kinds twice 0 bench (memory 80) (shelf (first ∷ []))
      ≡ (let parcel = entry 0 1 2 12 125 ++ known 1 1 2 ++ from 1 0 2 in turn (shelf (first ∷ parcel ∷ [])) (parcel ++ memory 8) [] (wrote 72))
  pub ships_last : ship site_kinds twice 1 bench (memory 72) (shelf []) ≡ turn (shelf (second ∷ [])) second [] (wrote 72)
  pub ships_nothing : ship site_kinds twice 2 bench (memory 72) (shelf []) ≡ turn (shelf (from 1 2 2 ∷ [])) (from 1 2 2 ++ memory 48) [] (wrote 24)
  pub ships_later : ship site_kinds forgetful 1 bench (memory 72) (shelf []) ≡ turn (shelf (second ∷ [])) second [] (wrote 72)
  pub not_made_yet : ship site_kinds twice 3 bench (memory 72) (shelf []) ≡ refuse (shelf []) (memory 72) left_over (refused 38 0)
  pub step_forgotten : ship site_kinds forgetful 0 bench (memory 72) (shelf []) ≡ refuse (shelf []) (memory 72) left_over (refused 38 1)
  pub no_room_to_join : ship site_kinds twice 0 (work []) (memory 72) (shelf []) ≡ refuse (shelf []) (memory 72) [] (refused 40 0)
  -- 48 runs and 49 others
  pub many_runs : ship site_kinds (replica 1 empty ((lone_known 1 48 ++ from 1 0 1) ∷ (lone_known 97 49 ++ from 1 1 2) ∷ []) 2 none_heard) 0 bench (memory 72) (shelf []) ≡ refuse (shelf []) (memory 72) [] (refused 34 0)
  pub short_output : ship site_kinds twice 1 bench (memory 71) (shelf []) ≡ refuse (shelf []) (memory 71) [] (refused 41 72)
  pub link_is_full : ship site_kinds twice 1 bench (memory 73) shut ≡ refuse shut (second ++ memory 1) [] (refused 13 3)
  pub whole : ship_whole forgetful (memory 73) (shelf []) ≡ (let parcel = entry 0 1 2 12 125 ++ known 1 1 2 ++ from 1 0 2 in turn (shelf (parcel ∷ [])) (parcel ++ memory 1) [] (wrote 72))
  pub whole_short : ship_whole twice (memory 71) (shelf []) ≡ refuse (shelf []) (memory 71) [] (refused 41 72)
  pub whole_full : ship_whole twice (memory 73) shut ≡ (let parcel = entry 0 1 2 12 125 ++ known 1 1 2 ++ from 1 0 2 in refuse shut (parcel ++ memory 1) [] (refused 13 3))

-- replica 2, which had the first step of replica 1 and cleared feeder 12
abbrev pub cleared : Replica
cleared = replica 2 (bare (run 1 1 1 ∷ [])) [] 0 (heard_one 1)

-- what replica 2 says of a parcel at position 0, refused past the memory
abbrev pub Declines : Replica → List ℕ → ℕ → ℕ → Type 0
Declines x parcel number place = deliver site_kinds x (shelf (parcel ∷ [])) 0 (memory 240) ≡ refuse (x, shelf (parcel ∷ [])) (parcel ++ replicate (240 - length parcel) 7) [] (refused number place)

pub record WorkedDeliveries : Type 0 where
  -- a clear of 1:1 beside a new set by replica 1: 1:2 lives
  pub set_outlives_clear : deliver site_kinds cleared (shelf (first ∷ second ∷ [])) 1 (memory 80)
      ≡ (let bytes = entry 0 1 2 12 125 ++ known 1 1 2 ++ from 2 0 1 in turn (replica 2 later (bytes ∷ []) 1 (heard_one 2), shelf (first ∷ [])) (bytes ++ memory 8) [] (arrived fresh))
  -- a clear of 1:1 beside an amend of it: nothing lives
  pub clear_outlives_amend : deliver site_kinds cleared (shelf ((entry 0 1 1 12 100 ++ known 1 1 1 ++ from 1 1 2) ∷ [])) 0 (memory 72)
      ≡ (let bytes = entry 0 1 1 12 100 ++ known 1 1 1 ++ from 2 0 1 in turn (replica 2 (bare (run 1 1 1 ∷ [])) (bytes ∷ []) 1 (heard_one 2), shelf []) bytes [] (arrived fresh))
  pub known_already : deliver site_kinds cleared (shelf (second ∷ first ∷ [])) 1 (memory 73) ≡ turn (cleared, shelf (second ∷ [])) (first ++ memory 1) [] (arrived old)
  pub no_parcel : deliver site_kinds cleared (shelf (first ∷ [])) 1 (memory 72) ≡ refuse (cleared, shelf (first ∷ [])) (memory 72) [] (refused 11 1)
  pub short_memory : deliver site_kinds cleared (shelf (first ∷ [])) 0 (memory 71) ≡ refuse (cleared, shelf (first ∷ [])) (memory 71) [] (refused 12 72)
  pub bad_record : Declines (new 2) (entry 0 1 1 12 160 ++ entry 3 1 2 12 7 ++ known 1 1 2 ++ from 1 0 1) 21 1
  pub out_of_order : Declines (new 2) (entry 1 1 2 12 7 ++ entry 0 1 1 12 160 ++ known 1 1 2 ++ from 1 0 1) 22 1
  pub bad_code : Declines (new 2) (entry 0 1 1 12 4001 ++ known 1 1 1 ++ from 1 0 1) 23 0
  pub stray_dot : Declines (new 2) (entry 0 1 2 12 160 ++ known 1 1 1 ++ from 1 0 1) 24 0
  pub no_origin : Declines (new 2) (entry 0 1 1 12 160 ++ known 1 1 1) 25 2
  pub trailing : Declines (new 2) (first ++ from 1 0 1) 26 3
  pub own_parcel : Declines (new 1) first 31 1
  pub gap : Declines (new 2) second 32 0
  pub no_step_left : Declines (replica 2 empty [] 4294967295 none_heard) first 37 0
  pub clash : Declines (replica 2 (group (item 0 13 (dot 1 1) 5 ∷ []) (run 1 1 1 ∷ [])) [] 0 none_heard) first 44 0
  pub part_is_full : Declines (record { number = 2; capacities = []; book = empty; deltas = shelf []; step = 0; forgotten = 0; heard = none_heard }) first 33 0
  pub many_runs : Declines (replica 3 (bare (lone 96)) [] 0 none_heard) first 34 1
  pub shelf_is_full : Declines (record { number = 2; capacities = 2 ∷ []; book = empty; deltas = shut; step = 0; forgotten = 0; heard = none_heard }) first 13 3

-- what a replica says of a journal whose first group has 72 bytes, refused past the memory
abbrev pub TurnsAway : Replica → List ℕ → ℕ → ℕ → Type 0
TurnsAway x group_bytes number place = absorb site_kinds x (group_bytes ++ memory 5) (memory 80) ≡ refuse x (group_bytes ++ memory 8) [] (refused number place)

-- and of one that it does not get so far with
abbrev pub CannotRead : List ℕ → ℕ → ℕ → Type 0
CannotRead journal number place = absorb site_kinds (new 2) journal (memory 80) ≡ refuse (new 2) (memory 80) [] (refused number place)

pub record WorkedAbsorptions : Type 0 where
  -- the second group of the journal is not looked at
  pub absorbs : absorb site_kinds (new 2) (first ++ second) (memory 80)
      ≡ (let bytes = entry 0 1 1 12 160 ++ known 1 1 1 ++ from 2 0 1 in turn (replica 2 one_limit (bytes ∷ []) 1 (heard_one 1)) (bytes ++ memory 8) [] (absorbed fresh 72))
  pub known_already : absorb site_kinds cleared (first ++ second) (memory 80) ≡ turn cleared (first ++ memory 8) [] (absorbed old 72)
  pub bad_record : CannotRead (memory 24) 21 0
  pub out_of_order : CannotRead (known 1 1 1 ++ known 1 2 2 ++ from 1 0 1) 22 1
  pub bad_code : CannotRead (entry 1 1 1 12 8) 23 0
  pub stray_dot : CannotRead (entry 0 1 1 12 8 ++ from 1 0 1) 24 0
  pub no_origin : CannotRead (known 1 1 1 ++ memory 23) 25 1
  pub nothing_at_all : CannotRead [] 25 0
  pub short_memory : absorb site_kinds (new 2) (first ++ second) (memory 71) ≡ refuse (new 2) (memory 71) [] (refused 12 72)
  pub own_group : TurnsAway (new 1) first 31 1
  pub gap : TurnsAway (new 2) second 32 0
  pub no_step_left : TurnsAway (replica 2 empty [] 4294967295 none_heard) first 37 0
  pub clash : TurnsAway (replica 2 (group (item 1 12 (dot 1 1) 5 ∷ []) (run 1 1 1 ∷ [])) [] 0 none_heard) first 44 0
  pub part_is_full : TurnsAway (record { number = 2; capacities = []; book = empty; deltas = shelf []; step = 0; forgotten = 0; heard = none_heard }) first 33 0
  pub many_runs : TurnsAway (replica 3 (bare (lone 96)) [] 0 none_heard) first 34 1
  pub shelf_is_full : TurnsAway (record { number = 2; capacities = 2 ∷ []; book = empty; deltas = shut; step = 0; forgotten = 0; heard = none_heard }) first 13 3

pub record WorkedOthers : Type 0 where
  pub loses : lose (shelf (first ∷ second ∷ [])) 0 ≡ turn (shelf (second ∷ [])) [] [] accepted
  pub nothing_to_lose : lose (shelf (first ∷ [])) 1 ≡ refuse (shelf (first ∷ [])) [] [] (refused 11 1)
  pub repeats : repeat (shelf (first ∷ second ∷ [])) 0 (memory 73) ≡ turn (shelf (first ∷ second ∷ first ∷ [])) (first ++ memory 1) [] accepted
  pub nothing_to_repeat : repeat (shelf []) 0 (memory 73) ≡ refuse (shelf []) (memory 73) [] (refused 11 0)
  pub short_memory : repeat (shelf (first ∷ [])) 0 (memory 71) ≡ refuse (shelf (first ∷ [])) (memory 71) [] (refused 12 72)
  pub link_is_full : repeat (record { sizes = sizes 1 3 9; parcels = first ∷ [] }) 0 (memory 73) ≡ refuse (record { sizes = sizes 1 3 9; parcels = first ∷ [] }) (first ++ memory 1) [] (refused 13 3)
  pub forgets : forget twice 1 ≡ turn forgetful [] [] accepted
  pub forgets_no_more : forget forgetful 0 ≡ turn forgetful [] [] accepted
  pub not_made_yet : forget forgetful 3 ≡ refuse forgetful [] [] (refused 38 1)
  -- two limits at one place, by dot
  pub reads : read site_kinds (replica 1 (group (limit (dot 1 1) 160 ∷ limit (dot 2 1) 125 ∷ []) (run 1 1 1 ∷ run 2 1 1 ∷ [])) [] 0 none_heard) 0 (feeder 12) (7 ∷ 7 ∷ 7 ∷ [])
      ≡ turn (replica 1 (group (limit (dot 1 1) 160 ∷ limit (dot 2 1) 125 ∷ []) (run 1 1 1 ∷ run 2 1 1 ∷ [])) [] 0 none_heard) (160 ∷ 125 ∷ 7 ∷ []) [] (counted 2)
  pub short_list : read site_kinds twice 0 (feeder 12) [] ≡ refuse twice [] [] (refused 41 1)
  pub nothing_read : read site_kinds twice 1 (feeder 12) [] ≡ turn twice [] [] (counted 0)
  pub no_such_part : read site_kinds twice 3 (feeder 12) (memory 2) ≡ refuse twice (memory 2) [] (refused 35 0)
  pub no_depth : read site_kinds twice 0 (feeder 0) (memory 2) ≡ refuse twice (memory 2) [] (refused 35 0)

pub record WorkedCalls : Type 0 where
  pub edits : WorkedEdits
  pub ships : WorkedShips
  pub deliveries : WorkedDeliveries
  pub absorptions : WorkedAbsorptions
  pub others : WorkedOthers
