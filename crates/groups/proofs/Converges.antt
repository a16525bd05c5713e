-- The join has the empty group as its unit and is idempotent; over groups that are level it is commutative and associative.
use Rattle.std.proofs.Common.{◌≡◌, Bool, true, false, ◌⊎◌, List, Some, None, Option, sym, refl, ap, ◌∙◌, subst, inl, inr, arith}
use Rattle.std.specs.List.{slice_get}
use Rattle.causal.specs.declared.dots.Dot.{Dot}
use Rattle.kinds.specs.Kinds.{ValueKind}
use Rattle.causal.specs.Runs.{has}
use Rattle.stores.specs.Items.{Item, find}
use Rattle.stores.specs.Sound.{Proper}
use Rattle.groups.specs.Groups.{Group, empty, Formed, Fate, unknown, dead, live, fate_of, fate, meet, joined, join_fates, join_found, Level}
use Rattle.groups.specs.JoinLaws.{JoinIsLawful}
use Rattle.stores.proofs.Stays.{some_none}
use Rattle.stores.proofs.Lookups.{some_same, found_all}
use Rattle.groups.proofs.Meets.{codes_fit, meet_recodes, Fit, meet_idem, meet_comm, meet_assoc}
use Rattle.groups.proofs.Keeps.{Recodes}
use Rattle.groups.proofs.Joins.{found_at, passed, find_joined, fate_joined, joined_formed, empty_formed, all_formed, group_ext}

-- groups that are level

pub level_self : (g : Group) → Level g g
level_self g d x y e f = let p : x ≡ y = some_same x y (sym e ∙ f) in (ap (λ z. z.part) p, ap (λ z. z.place) p)

pub level_turns : (g h : Group) → Level g h → Level h g
level_turns g h l d x y e f = let p = l d y x f e in (sym p.0, sym p.1)

module _ (ks : List ValueKind) where
  -- an item of the join is an item of a side, perhaps with another code
  join_found_from : (b c : Bool) (o p : Option Item) (x : Item) → join_found ks b c o p ≡ Some x → (y : Item) × ((o ≡ Some y) ⊎ (p ≡ Some y)) × Recodes y x
  join_found_from b c None None x e = absurd (some_none (sym e))
  join_found_from b c None (Some y) x e = (y, inr refl, subst (Recodes y) (passed b y x e).1 refl)
  join_found_from b c (Some y) None x e = (y, inl refl, subst (Recodes y) (passed c y x e).1 refl)
  join_found_from b c (Some y) (Some z) x e = (y, inl refl, subst (Recodes y) (some_same (meet ks y z) x e) (meet_recodes ks y z))

  pub joined_from : (g h : Group) → Formed ks g → Formed ks h → (d : Dot) (x : Item) → find d (joined ks g h).items ≡ Some x
      → (y : Item) × ((find d g.items ≡ Some y) ⊎ (find d h.items ≡ Some y)) × Recodes y x
  joined_from g h fg fh d x e =
      join_found_from (has g.runs d) (has h.runs d) (find d g.items) (find d h.items) x (sym (find_joined ks g h fg fh d) ∙ e)

  pub joined_level : (g h k : Group) → Formed ks g → Formed ks h → Level g k → Level h k → Level (joined ks g h) k
  joined_level g h k fg fh l m d x z e f =
      let w = joined_from g h fg fh d x e in
      let at : (w.0.part ≡ z.part) × (w.0.place ≡ z.place) = elim w.1 [ inl p ↦ l d w.0 z p f | inr p ↦ m d w.0 z p f ] in
      (ap (λ y. y.part) w.2 ∙ at.0, ap (λ y. y.place) w.2 ∙ at.1)

  -- where both fates are live, the items fit one another
  abbrev pub Agree : Fate → Fate → Type 0
  Agree unknown f = Unit {0}
  Agree dead f = Unit {0}
  Agree (live x) unknown = Unit {0}
  Agree (live x) dead = Unit {0}
  Agree (live x) (live y) = Fit ks x y

  pub agree : (g h : Group) → Formed ks g → Formed ks h → Level g h → (d : Dot) → Agree (fate g d) (fate h d)
  agree g h fg fh l d = go (find d g.items) (find d h.items) (has g.runs d) (has h.runs d) refl refl
    where
      go : (o p : Option Item) (b c : Bool) → find d g.items ≡ o → find d h.items ≡ p → Agree (fate_of o b) (fate_of p c)
      go None p true c e f = tt
      go None p false c e f = tt
      go (Some x) None b true e f = tt
      go (Some x) None b false e f = tt
      go (Some x) (Some y) b c e f = record {
        part = (l d x y e f).0;
        place = (l d x y e f).1;
        dot = found_at d g.items x e ∙ sym (found_at d h.items y f);
        left = (found_all (Proper ks) d g.items x fg.proper e).fits;
        right = (found_all (Proper ks) d h.items y fh.proper f).fits;
      }

  pub fate_idem : (f : Fate) → Agree f f → join_fates ks f f ≡ f
  fate_idem unknown a = refl
  fate_idem dead a = refl
  fate_idem (live x) a = ap live (meet_idem ks x a)

  pub fate_unit : (f : Fate) → join_fates ks f unknown ≡ f
  fate_unit unknown = refl
  fate_unit dead = refl
  fate_unit (live x) = refl

  pub fate_comm : (f g : Fate) → Agree f g → join_fates ks f g ≡ join_fates ks g f
  fate_comm unknown g a = sym (fate_unit g)
  fate_comm dead unknown a = refl
  fate_comm dead dead a = refl
  fate_comm dead (live y) a = refl
  fate_comm (live x) unknown a = refl
  fate_comm (live x) dead a = refl
  fate_comm (live x) (live y) a = ap live (meet_comm ks x y a)

  pub fate_assoc : (f g h : Fate) → Agree f g → Agree g h → Agree f h → join_fates ks (join_fates ks f g) h ≡ join_fates ks f (join_fates ks g h)
  fate_assoc f g h a b c = let m = meet_assoc ks in grind arith

  pub joined_left_unit : (g : Group) → Formed ks g → joined ks empty g ≡ g
  joined_left_unit g fg = group_ext ks (joined ks empty g) g (joined_formed ks empty g (empty_formed ks) fg) fg (fate_joined ks empty g (empty_formed ks) fg)

  pub joined_right_unit : (g : Group) → Formed ks g → joined ks g empty ≡ g
  joined_right_unit g fg = group_ext ks (joined ks g empty) g (joined_formed ks g empty fg (empty_formed ks)) fg (λ d. fate_joined ks g empty fg (empty_formed ks) d ∙ fate_unit (fate g d))

  pub joined_idem : (g : Group) → Formed ks g → joined ks g g ≡ g
  joined_idem g fg = group_ext ks (joined ks g g) g (joined_formed ks g g fg fg) fg (λ d. fate_joined ks g g fg fg d ∙ fate_idem (fate g d) (agree g g fg fg (level_self g) d))

  pub joined_comm : (g h : Group) → Formed ks g → Formed ks h → Level g h → joined ks g h ≡ joined ks h g
  joined_comm g h fg fh l =
      group_ext ks (joined ks g h) (joined ks h g) (joined_formed ks g h fg fh) (joined_formed ks h g fh fg)
      (λ d. fate_joined ks g h fg fh d ∙ fate_comm (fate g d) (fate h d) (agree g h fg fh l d) ∙ sym (fate_joined ks h g fh fg d))

  pub joined_assoc : (g h k : Group) → Formed ks g → Formed ks h → Formed ks k → Level g h → Level h k → Level g k → joined ks (joined ks g h) k ≡ joined ks g (joined ks h k)
  joined_assoc g h k fg fh fk l m n =
      let fgh = joined_formed ks g h fg fh in
      let fhk = joined_formed ks h k fh fk in
      group_ext ks (joined ks (joined ks g h) k) (joined ks g (joined ks h k)) (joined_formed ks (joined ks g h) k fgh fk) (joined_formed ks g (joined ks h k) fg fhk)
      (λ d. fate_joined ks (joined ks g h) k fgh fk d ∙ ap (λ f. join_fates ks f (fate k d)) (fate_joined ks g h fg fh d)
      ∙ fate_assoc (fate g d) (fate h d) (fate k d) (agree g h fg fh l d) (agree h k fh fk m d) (agree g k fg fk n d)
      ∙ sym (fate_joined ks g (joined ks h k) fg fhk d ∙ ap (join_fates ks (fate g d)) (fate_joined ks h k fh fk d)))

pub join_is_lawful : JoinIsLawful
join_is_lawful ks = record {
  pointwise = λ g h d fg fh. fate_joined ks g h fg fh d;
  look_ups = λ g h d fg fh. find_joined ks g h fg fh d;
  extensional = group_ext ks;
  codes_fit = λ part a b. codes_fit (slice_get ks part) a b;
  empty_formed = empty_formed ks;
  stays_formed = joined_formed ks;
  all_formed = all_formed ks;
  left_unit = joined_left_unit ks;
  right_unit = joined_right_unit ks;
  idempotent = joined_idem ks;
  commutative = joined_comm ks;
  associative = joined_assoc ks;
  stays_level = joined_level ks;
  level_turns = level_turns;
}
