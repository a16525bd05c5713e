-- A run of two laptops, worked out by hand: parcels by intervals, of which one is lost, one repeated and one overtaken.
use Rattle.std.specs.Prelude.{◌≡◌, ℕ, List, [], ◌∷◌, ◌++◌, replicate, refl}
use Rattle.refusals.specs.Table.{refused}
use Rattle.causal.specs.Runs.{dot, run}
use Rattle.groups.specs.Groups.{Group}
use Rattle.groups.specs.Examples.{site_kinds, item, group, limit}
use Rattle.calls.specs.Holdings.{Work, fresh, old, Answer, refusal, wrote, arrived, accepted, Turn}
use Rattle.calls.specs.Examples.{large, low, entry, known, from}
use Rattle.history.specs.Worlds as worlds
use Rattle.history.specs.Worlds.{Number, Setting, Call, edit, ship, deliver, lose, repeat, forget, opened, trace}
use Rattle.history.specs.History.{Name, Edits, names, blank, tale, history}

abbrev pub site : Setting
site = record { kinds = site_kinds; capacities = λ r. 4 ∷ 4 ∷ 4 ∷ []; deltas = λ r. large; links = λ l. large }

abbrev pub one : Number
one = record { value = 1; checked = refl }

abbrev pub two : Number
two = record { value = 2; checked = refl }

abbrev pub bench : Work
bench = record { capacities = 4 ∷ 4 ∷ 4 ∷ []; items = [] }

abbrev pub memory : List ℕ
memory = replicate 150 7

-- tag, part, two keys, code
abbrev pub action : ℕ → ℕ → ℕ → ℕ → ℕ → List ℕ
action tag part a b code = tag ∷ part ∷ replicate 6 0 ++ low a ++ low b ++ replicate 10 0 ++ low code

abbrev pub edits : Number → List ℕ → Call
edits r bytes = edit r r.value bytes bench memory

abbrev pub ships : Number → ℕ → Call
ships r since = ship r since bench memory 0

abbrev pub delivers : Number → ℕ → Call
delivers r position = deliver r 0 position memory

-- the calls of the run, in its order
abbrev pub laptops : List Call
laptops =
    edits one (action 5 0 12 0 160) ∷ ships one 0 ∷ delivers two 0 ∷ edits one (action 5 0 12 0 125) ∷ ships one 1
    ∷ lose 0 0
    ∷ edits two (action 7 0 12 0 100 ++ action 5 2 12 0 0) ∷ edits one (action 5 1 12 1 7) ∷ ships one 2
    ∷ delivers two 0
    ∷ ships one 1 ∷ repeat 0 1 memory ∷ delivers two 1 ∷ delivers two 1 ∷ delivers two 0
    ∷ forget one 2 ∷ ships one 1 ∷ ships one 3 ∷ delivers two 0 ∷ ships two 0 ∷ delivers one 0 ∷ []

abbrev pub said : List Answer
said =
    wrote 72 ∷ wrote 72 ∷ arrived fresh ∷ wrote 72 ∷ wrote 72
    ∷ accepted
    ∷ wrote 120 ∷ wrote 72 ∷ wrote 72
    ∷ refusal (refused 32 1)
    ∷ wrote 96 ∷ accepted ∷ arrived fresh ∷ arrived old ∷ arrived old
    ∷ accepted ∷ refusal (refused 38 2) ∷ wrote 24 ∷ arrived old ∷ wrote 144 ∷ arrived fresh ∷ []

abbrev pub answers : {A : Type 0} → List (Turn A) → List Answer
answers [] = []
answers (t ∷ ts) = t.answer ∷ answers ts

-- what the last call leaves in memory
abbrev pub last_memory : {A : Type 0} → List (Turn A) → List ℕ
last_memory [] = []
last_memory (t ∷ []) = t.memory
last_memory (t ∷ u ∷ ts) = last_memory (u ∷ ts)

abbrev pub name : ℕ → ℕ → Name
name author step = record { author = author; step = step }

abbrev pub pasts : Edits → List (List Name)
pasts [] = []
pasts (e ∷ es) = e.past ∷ pasts es

-- the book that both come to
abbrev pub agreed : Group
agreed = group
    (limit (dot 1 2) 125
    ∷ record { part = 1; place = record { first = 12; second = 1; third = 0; fourth = 0 }; dot = dot 1 3; code = 7 }
    ∷ item 2 12 (dot 2 1) 0 ∷ []) (run 1 1 3 ∷ run 2 1 1 ∷ [])

pub record WorkedRun : Type 0 where
  pub replicas_answer : answers (trace site (opened site) laptops) ≡ said
  pub machine_answers : answers (tale site (blank site) laptops) ≡ said
  pub first_book : ((worlds.run site (opened site) laptops).replicas 1).book ≡ agreed
  pub second_book : ((worlds.run site (opened site) laptops).replicas 2).book ≡ agreed
  -- the group that laptop 1 took in, under its own origin
  pub taken_in : last_memory (trace site (opened site) laptops)
      ≡ entry 0 1 2 12 125 ++ (1 ∷ 1 ∷ 1 ∷ 0 ∷ low 3 ++ replicate 2 0 ++ low 12 ++ low 1 ++ replicate 10 0 ++ low 7) ++ entry 2 2 1 12 0 ++ known 1 1 3 ++ known 2 1 1 ++ from 1 3 4 ++ replicate 6 7
  pub seen_by_two : names ((history site (blank site) laptops).pasts 2).seen ≡ name 1 1 ∷ name 2 2 ∷ name 1 2 ∷ name 1 3 ∷ []
  -- each edit's past: what its author had seen
  pub pasts_of_two : pasts ((history site (blank site) laptops).pasts 2).seen ≡ [] ∷ (name 1 1 ∷ []) ∷ (name 1 1 ∷ []) ∷ (name 1 1 ∷ name 1 2 ∷ []) ∷ []
