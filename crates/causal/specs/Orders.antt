-- What makes a test an order in which no two different things stand level.
use Rattle.std.specs.Prelude.{◌≡◌, Bool, true, false}
use Rattle.causal.specs.Dots.{same_dot, dot_less}
use Rattle.causal.specs.Places.{same_place, place_less}

pub record TotalOrder {X : Type 0} (less same : X → X → Bool) : Type 0 where
  pub irreflexive : (x : X) → less x x ≡ false
  pub transitive : (x y z : X) → less x y ≡ true → less y z ≡ true → less x z ≡ true
  pub connected : (x y : X) → less x y ≡ false → less y x ≡ false → x ≡ y
  pub same_self : (x : X) → same x x ≡ true
  pub same_is : (x y : X) → same x y ≡ true → x ≡ y

-- dots and places are totally ordered
pub record OrdersAreTotal : Type 0 where
  pub dots : TotalOrder dot_less same_dot
  pub places : TotalOrder place_less same_place
