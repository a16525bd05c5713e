-- The order of items, from the orders of places and dots alone.
use Rattle.std.proofs.Common.{◌≡◌, ℕ, ◌+◌, ◌<◌, Bool, true, false, ◌&&◌, ◌||◌, eqb, ltb, sym, ap, ◌∙◌, inl, inr, arith}
use Rattle.std.proofs.lemmas.Bool.Decides.{nat_tests}
use Rattle.std.proofs.lemmas.Bool.{cases_Bool, both_ways, or_left, or_from, and_left, lt-ltb, le-ltb, eq-eqb, ne_eqb, cases_lt, cases_eq}
use Rattle.causal.specs.declared.dots.Dot.{Dot}
use Rattle.causal.specs.Dots.{same_dot, dot_less}
use Rattle.causal.specs.Orders.{TotalOrder}
use Rattle.causal.proofs.OrderLaws.{dots_total, places_total}
use Rattle.stores.specs.Items.{Item, precedes, spot_less}

module _ {X : Type 0} {less same : X → X → Bool} (o : TotalOrder less same) where
  pub turned : (x y : X) → same x y ≡ false → same y x ≡ false
  turned x y h = elim (cases_Bool (same y x))
      [ inl t ↦ absurd (both_ways (same x y) h (ap (same x) (o.same_is y x t) ∙ o.same_self x)) | inr f ↦ f ]

  -- one level of an order by this and then something else
  abbrev then_by : X → X → Bool → Bool
  then_by x y b = less x y || (same x y && b)

  pub then_transitive : (x y z : X) (a b c : Bool) → (a ≡ true → b ≡ true → c ≡ true) → then_by x y a ≡ true → then_by y z b ≡ true → then_by x z c ≡ true
  then_transitive x y z a b c h p q =
      let t = o.transitive x y z in
      let u = o.same_is x y in
      let v = o.same_is y z in
      let w = o.same_self x in
      grind arith

  pub then_irreflexive : (x : X) (a : Bool) → a ≡ false → then_by x x a ≡ false
  then_irreflexive x a h = let i = o.irreflexive x in grind arith

  pub then_other : (x y : X) (a b : Bool) → (a ≡ false → b ≡ true) → then_by x y a ≡ false → then_by y x b ≡ true
  then_other x y a b h p =
      let t = o.connected x y in
      let w = o.same_self x in
      grind arith

pub numbers_total : TotalOrder ltb eqb
numbers_total = record {
  irreflexive = λ x. grind (arith, nat_tests);
  transitive = λ x y z p q. grind (arith, nat_tests);
  connected = λ x y p q. grind (arith, nat_tests);
  same_self = λ x. grind (arith, nat_tests);
  same_is = λ x y p. grind (arith, nat_tests);
}

-- dots

pub dot_equal : (d e : Dot) → same_dot d e ≡ true → d ≡ e
dot_equal d e h = dots_total.same_is d e h

pub dot_itself : (d : Dot) → same_dot d d ≡ true
dot_itself d = dots_total.same_self d

pub dot_turned : (d e : Dot) → same_dot d e ≡ false → same_dot e d ≡ false
dot_turned d e h = turned dots_total d e h

dot_other : (d e : Dot) → same_dot d e ≡ false → dot_less d e ≡ false → dot_less e d ≡ true
dot_other d e f h = elim (cases_Bool (dot_less e d))
    [ inl t ↦ t | inr g ↦ absurd (both_ways (same_dot d e) f (ap (same_dot d) (sym (dots_total.connected d e h g)) ∙ dot_itself d)) ]

-- items

pub precedes_transitive : (x y z : Item) → precedes x y ≡ true → precedes y z ≡ true → precedes x z ≡ true
precedes_transitive x y z =
    then_transitive numbers_total x.part y.part z.part (spot_less x.place x.dot y.place y.dot) (spot_less y.place y.dot z.place z.dot) (spot_less x.place x.dot z.place z.dot)
    (then_transitive places_total x.place y.place z.place (dot_less x.dot y.dot) (dot_less y.dot z.dot) (dot_less x.dot z.dot)
    (dots_total.transitive x.dot y.dot z.dot))

pub precedes_irreflexive : (x : Item) → precedes x x ≡ false
precedes_irreflexive x =
    then_irreflexive numbers_total x.part (spot_less x.place x.dot x.place x.dot)
    (then_irreflexive places_total x.place (dot_less x.dot x.dot) (dots_total.irreflexive x.dot))

pub precedes_other : (x y : Item) → same_dot x.dot y.dot ≡ false → precedes x y ≡ false → precedes y x ≡ true
precedes_other x y f =
    then_other numbers_total x.part y.part (spot_less x.place x.dot y.place y.dot) (spot_less y.place y.dot x.place x.dot)
    (then_other places_total x.place y.place (dot_less x.dot y.dot) (dot_less y.dot x.dot) (dot_other x.dot y.dot f))

pub lower_precedes : (x y : Item) → x.part < y.part → precedes x y ≡ true
lower_precedes x y h = or_left (ltb x.part y.part) (eqb x.part y.part && spot_less x.place x.dot y.place y.dot) (lt-ltb x.part y.part h)

pub higher_follows : (x y : Item) → x.part < y.part → precedes y x ≡ false
higher_follows x y h =
    or_from (ltb y.part x.part) (eqb y.part x.part && spot_less y.place y.dot x.place x.dot) (le-ltb y.part x.part (omega arith))
    (and_left (eqb y.part x.part) (spot_less y.place y.dot x.place x.dot) (ne_eqb y.part x.part (λ e. omega arith)))

pub ltb_add : (n a b : ℕ) → ltb (n + a) (n + b) ≡ ltb a b
ltb_add n a b = elim (cases_lt a b) [ inl h ↦ lt-ltb (n + a) (n + b) (omega arith) ∙ sym (lt-ltb a b h) | inr h ↦ le-ltb (n + a) (n + b) (omega arith) ∙ sym (le-ltb a b h) ]

pub eqb_add : (n a b : ℕ) → eqb (n + a) (n + b) ≡ eqb a b
eqb_add n a b = elim (cases_eq a b) [ inl h ↦ eq-eqb (n + a) (n + b) (omega arith) ∙ sym (eq-eqb a b h) | inr h ↦ ne_eqb (n + a) (n + b) (λ e. h (omega arith)) ∙ sym (ne_eqb a b h) ]
