-- Codes and items that meet.
use Rattle.std.proofs.Common.{◌≡◌, ℕ, Bool, true, false, cond, eqb, List, Some, None, Option, sym, refl, ap, ◌∙◌}
use Rattle.std.specs.List.{slice_get}
use Rattle.std.proofs.lemmas.Bool.{false≢true, and_from, and_parts, cond_both, cond-true, eqb-true, eq-eqb}
use Rattle.causal.specs.Places.{same_place}
use Rattle.kinds.specs.Kinds.{ValueKind}
use Rattle.causal.proofs.OrderLaws.{places_total}
use Rattle.stores.specs.Items.{Item, recode, merge}
use Rattle.stores.specs.Puts.{fits_kind, fits_part}
use Rattle.stores.specs.Sound.{Proper}
use Rattle.groups.specs.Groups.{join_codes, one_spot, meet}

-- codes of one part

pub codes_fit : (o : Option ValueKind) (a b : ℕ) → fits_kind o a ≡ true → fits_kind o b ≡ true → fits_kind o (join_codes o a b) ≡ true
codes_fit None a b p q = p
codes_fit (Some k) a b p q = k.closed a b p q

codes_idem : (o : Option ValueKind) (a : ℕ) → fits_kind o a ≡ true → join_codes o a a ≡ a
codes_idem None a p = refl
codes_idem (Some k) a p = k.idempotent a p

codes_comm : (o : Option ValueKind) (a b : ℕ) → fits_kind o a ≡ true → fits_kind o b ≡ true → join_codes o a b ≡ join_codes o b a
codes_comm None a b p q = absurd (false≢true p)
codes_comm (Some k) a b p q = k.commutes a b p q

codes_assoc : (o : Option ValueKind) (a b c : ℕ) → fits_kind o a ≡ true → fits_kind o b ≡ true → fits_kind o c ≡ true → join_codes o (join_codes o a b) c ≡ join_codes o a (join_codes o b c)
codes_assoc None a b c p q r = refl
codes_assoc (Some k) a b c p q r = k.associates a b c p q r

one_part : (x y : Item) → one_spot x y ≡ true → x.part ≡ y.part
one_part x y t = eqb-true x.part y.part (and_parts (eqb x.part y.part) (same_place x.place y.place) t).0

pub meet_recodes : (ks : List ValueKind) (x y : Item) → meet ks x y ≡ recode x (meet ks x y).code
unfolding meet
meet_recodes ks x y = refl

-- a put of x into a store leaves of y what the two become as the left's y and the right's x
pub meet_is_merge : (ks : List ValueKind) (k : ValueKind) (x y : Item) → slice_get ks x.part ≡ Some k → meet ks y x ≡ merge k x y
unfolding meet
meet_is_merge ks k x y n = go (one_spot y x) refl
  where
    go : (b : Bool) → one_spot y x ≡ b → recode y (cond b (join_codes (slice_get ks y.part) y.code x.code) y.code) ≡ cond b (recode y (k.join y.code x.code)) y
    go true t = ap (λ o. recode y (join_codes o y.code x.code)) (ap (slice_get ks) (one_part y x t) ∙ n)
    go false t = refl

-- two proper items at one dot, part and place
pub record Fit (ks : List ValueKind) (x y : Item) : Type 0 where
  pub part : x.part ≡ y.part
  pub place : x.place ≡ y.place
  pub dot : x.dot ≡ y.dot
  pub left : fits_part ks x.part x.code ≡ true
  pub right : fits_part ks y.part y.code ≡ true

pub proper_meet : (ks : List ValueKind) (x y : Item) → Proper ks x → Proper ks y → Proper ks (meet ks x y)
unfolding meet
proper_meet ks x y p q = record {
  placed = p.placed;
  address = p.address;
  fits = cond_both (one_spot x y) (join_codes (slice_get ks x.part) x.code y.code) x.code (λ c. fits_part ks x.part c ≡ true)
      (λ t. codes_fit (slice_get ks x.part) x.code y.code p.fits (ap (λ n. fits_part ks n y.code) (one_part x y t) ∙ q.fits))
      (λ _. p.fits);
}

module _ (ks : List ValueKind) where
  one_spot_fit : (x y : Item) → Fit ks x y → one_spot x y ≡ true
  one_spot_fit x y f =
      and_from (eqb x.part y.part) (same_place x.place y.place) (eq-eqb x.part y.part f.part)
      (ap (same_place x.place) (sym f.place) ∙ places_total.same_self x.place)

  met : (x y : Item) → Fit ks x y → meet ks x y ≡ recode x (join_codes (slice_get ks x.part) x.code y.code)
  unfolding meet
  met x y f = ap (recode x) (cond-true (one_spot x y) (join_codes (slice_get ks x.part) x.code y.code) x.code (one_spot_fit x y f))

  recoded : (x y : Item) (a b : ℕ) → Fit ks x y → a ≡ b → recode x a ≡ recode y b
  recoded x y a b f e = λ i. record { part = f.part i; place = f.place i; dot = f.dot i; code = e i }

  -- the right's code fits the left's part
  across : (x y : Item) → Fit ks x y → fits_part ks x.part y.code ≡ true
  across x y f = ap (λ n. fits_part ks n y.code) f.part ∙ f.right

  turned_fit : (x y : Item) → Fit ks x y → Fit ks y x
  turned_fit x y f = record { part = sym f.part; place = sym f.place; dot = sym f.dot; left = f.right; right = f.left }

  pub meet_idem : (x : Item) → Fit ks x x → meet ks x x ≡ x
  meet_idem x f = met x x f ∙ ap (recode x) (codes_idem (slice_get ks x.part) x.code f.left)

  pub meet_comm : (x y : Item) → Fit ks x y → meet ks x y ≡ meet ks y x
  meet_comm x y f =
      met x y f
      ∙ recoded x y _ _ f (codes_comm (slice_get ks x.part) x.code y.code f.left (across x y f) ∙ ap (λ n. join_codes (slice_get ks n) y.code x.code) f.part)
      ∙ sym (met y x (turned_fit x y f))

  pub meet_assoc : (x y z : Item) → Fit ks x y → Fit ks y z → Fit ks x z → meet ks (meet ks x y) z ≡ meet ks x (meet ks y z)
  meet_assoc x y z f g h =
      let o = slice_get ks x.part in
      let xy = join_codes o x.code y.code in
      let yz = join_codes (slice_get ks y.part) y.code z.code in
      let fits_xy : fits_part ks x.part xy ≡ true = codes_fit o x.code y.code f.left (across x y f) in
      let fits_yz : fits_part ks y.part yz ≡ true = codes_fit (slice_get ks y.part) y.code z.code g.left (across y z g) in
      ap (λ w. meet ks w z) (met x y f)
      ∙ met (recode x xy) z (record { part = h.part; place = h.place; dot = h.dot; left = fits_xy; right = h.right })
      ∙ ap (recode x) (codes_assoc o x.code y.code z.code f.left (across x y f) (across x z h) ∙ ap (λ n. join_codes o x.code (join_codes (slice_get ks n) y.code z.code)) f.part)
      ∙ sym (ap (meet ks x) (met y z g) ∙ met x (recode y yz) (record { part = f.part; place = f.place; dot = f.dot; left = f.left; right = fits_yz }))
