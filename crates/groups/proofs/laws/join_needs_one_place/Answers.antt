use Rattle.std.proofs.Common.{◌≡◌, ℕ, true, leb, List, [], ◌∷◌, refl, ap, arith}
use Rattle.causal.specs.Dots.{same_dot, dot_less}
use Rattle.kinds.specs.Models.{most_amps}
use Rattle.causal.specs.Places.{same_place, place_less}
use Rattle.causal.specs.Runs.{in_run, before, hull, dot}
use Rattle.stores.specs.Items.{Item}
use Rattle.stores.specs.Puts.{is_address}
use Rattle.groups.specs.Groups.{Formed, meet}
use Rattle.groups.specs.Examples.{site_kinds, feeder}
use Rattle.groups.specs.JoinLaws.{claim}
use Rattle.groups.proofs.laws.join_needs_one_place.Goals as goal

first_code : List Item → ℕ
first_code [] = 0
first_code (x ∷ xs) = x.code

formed : (n amps : ℕ) → is_address (feeder n) (dot 1 1) ≡ true → leb amps most_amps ≡ true → Formed site_kinds (claim n amps)
unfolding in_run
formed n amps a f = record { one_form = refl; ascends = (tt, tt); apart = (tt, tt); proper = (record { placed = omega arith; address = a; fits = f }, tt); known = (refl, tt) }

pub returns : goal.returns
unfolding same_dot dot_less same_place place_less in_run before hull meet first_code
returns c = record {
  first_formed = formed 12 160 refl refl;
  second_formed = formed 13 63 refl refl;
  third_formed = formed 12 125 refl refl;
  one_way = refl;
  other_way = refl;
  not_commutative = λ e. let z : ◌≡◌ {A = ℕ} 160 63 = ap (λ g. first_code g.items) e in omega arith;
  first_two_first = refl;
  last_two_first = refl;
  not_associative = λ e. let z : ◌≡◌ {A = ℕ} 125 160 = ap (λ g. first_code g.items) e in omega arith;
}
