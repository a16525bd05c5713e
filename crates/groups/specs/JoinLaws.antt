-- What the join of groups satisfies, and why a dot must stand at one place only.
use Rattle.std.specs.Prelude.{◌≡◌, ℕ, true, List, [], ◌∷◌}
use Rattle.std.specs.List.{slice_get, AllByRecursion}
use Rattle.causal.specs.declared.dots.Dot.{Dot}
use Rattle.kinds.specs.Kinds.{ValueKind}
use Rattle.causal.specs.Runs.{has, dot, run}
use Rattle.stores.specs.Items.{find}
use Rattle.stores.specs.Puts.{fits_part}
use Rattle.groups.specs.Groups.{Group, empty, Formed, fate, join_codes, joined, joined_all, join_fates, join_found, Level}
use Rattle.groups.specs.Examples.{site_kinds, group, item}

-- of the join over parts of these kinds
pub record JoinLaws (ks : List ValueKind) : Type 0 where
  -- the fate of a dot in the join is the join of its two fates
  pub pointwise : (g h : Group) (d : Dot) → Formed ks g → Formed ks h → fate (joined ks g h) d ≡ join_fates ks (fate g d) (fate h d)
  -- so is what a look-up finds in it
  pub look_ups : (g h : Group) (d : Dot) → Formed ks g → Formed ks h
      → find d (joined ks g h).items ≡ join_found ks (has g.runs d) (has h.runs d) (find d g.items) (find d h.items)
  -- groups with equal fates at every dot are equal
  pub extensional : (g h : Group) → Formed ks g → Formed ks h → ((d : Dot) → fate g d ≡ fate h d) → g ≡ h
  -- the join of two codes of a part is a code of it
  pub codes_fit : (part a b : ℕ) → fits_part ks part a ≡ true → fits_part ks part b ≡ true → fits_part ks part (join_codes (slice_get ks part) a b) ≡ true
  -- groups in form join to one in form
  pub empty_formed : Formed ks empty
  pub stays_formed : (g h : Group) → Formed ks g → Formed ks h → Formed ks (joined ks g h)
  pub all_formed : (gs : List Group) → AllByRecursion (Formed ks) gs → Formed ks (joined_all ks gs)
  pub left_unit : (g : Group) → Formed ks g → joined ks empty g ≡ g
  pub right_unit : (g : Group) → Formed ks g → joined ks g empty ≡ g
  pub idempotent : (g : Group) → Formed ks g → joined ks g g ≡ g
  pub commutative : (g h : Group) → Formed ks g → Formed ks h → Level g h → joined ks g h ≡ joined ks h g
  pub associative : (g h k : Group) → Formed ks g → Formed ks h → Formed ks k → Level g h → Level h k → Level g k → joined ks (joined ks g h) k ≡ joined ks g (joined ks h k)
  -- a join is level with what both its sides are level with
  pub stays_level : (g h k : Group) → Formed ks g → Formed ks h → Level g k → Level h k → Level (joined ks g h) k
  pub level_turns : (g h : Group) → Level g h → Level h g

-- whatever the parts and their kinds
abbrev pub JoinIsLawful : Type 0
JoinIsLawful = (ks : List ValueKind) → JoinLaws ks

-- the dot 1:1 at a feeder with a limit, and nothing else known
abbrev pub claim : ℕ → ℕ → Group
claim n amps = group (item 0 n (dot 1 1) amps ∷ []) (run 1 1 1 ∷ [])

-- three groups, each formed, that place 1:1 at feeder 12, at feeder 13 and at feeder 12
pub record JoinNeedsOnePlace : Type 0 where
  pub first_formed : Formed site_kinds (claim 12 160)
  pub second_formed : Formed site_kinds (claim 13 63)
  pub third_formed : Formed site_kinds (claim 12 125)
  pub one_way : joined site_kinds (claim 12 160) (claim 13 63) ≡ claim 12 160
  pub other_way : joined site_kinds (claim 13 63) (claim 12 160) ≡ claim 13 63
  pub not_commutative : joined site_kinds (claim 12 160) (claim 13 63) ≡ joined site_kinds (claim 13 63) (claim 12 160) → ⊥
  pub first_two_first : joined site_kinds (joined site_kinds (claim 12 160) (claim 13 63)) (claim 12 125) ≡ claim 12 125
  pub last_two_first : joined site_kinds (claim 12 160) (joined site_kinds (claim 13 63) (claim 12 125)) ≡ claim 12 160
  pub not_associative : joined site_kinds (joined site_kinds (claim 12 160) (claim 13 63)) (claim 12 125) ≡ joined site_kinds (claim 12 160) (joined site_kinds (claim 13 63) (claim 12 125)) → ⊥
