-- The join of two groups, dot by dot; and that a group is told by its fates.
use Rattle.std.proofs.Common.{◌≡◌, ℕ, Bool, true, false, cond, ◌||◌, List, [], ◌∷◌, Some, None, fold, Option, sym, refl, ap, ◌∙◌, subst, ap₂, inl, inr}
use Rattle.std.specs.Option.{option_or}
use Rattle.std.specs.List.{AllByRecursion}
use Rattle.std.proofs.lemmas.Bool.{both_ways, cases_Bool, cond-true, or_left, or_right}
use Rattle.std.proofs.ByRecursion.{All-weaker}
use Rattle.causal.specs.declared.dots.Dot.{Dot}
use Rattle.causal.specs.declared.runs.Run.{Run}
use Rattle.kinds.specs.Kinds.{ValueKind}
use Rattle.causal.specs.Runs.{has, canonical}
use Rattle.causal.proofs.RunFacts.{canonical_from}
use Rattle.causal.proofs.RunSets as sets
use Rattle.stores.specs.Items.{Item, has_dot, find, Ascends, Apart}
use Rattle.stores.specs.Sound.{Proper, Orderly}
use Rattle.groups.specs.Groups.{Group, empty, Known, Formed, Fate, unknown, dead, live, fate_of, fate, meet, settle, stays, comes, keep, joined, joined_all, join_fates, join_found}
use Rattle.stores.proofs.ItemOrder.{dot_equal}
use Rattle.stores.proofs.Stays.{some_none}
use Rattle.stores.proofs.Lookups.{some_same, found_dot, found_all, lists_same}
use Rattle.groups.proofs.Meets.{meet_recodes, proper_meet}
use Rattle.groups.proofs.Keeps.{Absent, Recodes, bound, all_keep, keep_ascends, keep_apart, find_keep, all_inserts, Free, inserts_ascend, inserts_apart, find_inserts}

-- the items of a sound store, all at known dots, are a group
pub formed_orderly : (ks : List ValueKind) (caps : List ℕ) (g : Group) → Orderly ks caps g.items → canonical g.runs ≡ true → AllByRecursion (Known g.runs) g.items → Formed ks g
formed_orderly ks caps g o c k = record { one_form = c; ascends = o.ascends; apart = o.apart; proper = o.proper; known = k }

pub found_at : (d : Dot) (xs : List Item) (x : Item) → find d xs ≡ Some x → x.dot ≡ d
found_at d xs x e = dot_equal x.dot d (found_dot d xs x e)

-- what a group has it knows
pub found_known : (ks : List ValueKind) (g : Group) (d : Dot) (x : Item) → Formed ks g → find d g.items ≡ Some x → has g.runs d ≡ true
found_known ks g d x fg e = ap (has g.runs) (sym (found_at d g.items x e)) ∙ found_all (Known g.runs) d g.items x fg.known e

-- what it does not know it does not have
pub unknown_absent : (rs : List Run) (d : Dot) (xs : List Item) → AllByRecursion (Known rs) xs → has rs d ≡ false → Absent d xs
unknown_absent rs d [] k h = tt
unknown_absent rs d (x ∷ xs) k h = (
  elim (cases_Bool (has_dot d x)) [ inl t ↦ absurd (both_ways (has rs d) h (ap (has rs) (sym (dot_equal x.dot d t)) ∙ k.0)) | inr f ↦ f ],
  unknown_absent rs d xs k.1 h,
)

pub passed : (b : Bool) (x y : Item) → cond b None (Some x) ≡ Some y → (b ≡ false) × (x ≡ y)
passed true x y e = absurd (some_none (sym e))
passed false x y e = (refl, some_same x y e)

module _ (ks : List ValueKind) where
  -- what comes is the item itself, at a dot that the left does not know
  came : (g : Group) (x y : Item) → comes g x ≡ Some y → (has g.runs x.dot ≡ false) × (x ≡ y)
  came g x y e = passed (has g.runs x.dot) x y e

  comes_same : (g : Group) (x y : Item) → comes g x ≡ Some y → Recodes x y
  comes_same g x y e = subst (Recodes x) (came g x y e).1 refl

  settle_same : (x y : Item) (o : Option Item) (b : Bool) → settle ks x o b ≡ Some y → Recodes x y
  settle_same x y (Some z) b e = subst (Recodes x) (some_same (meet ks x z) y e) (meet_recodes ks x z)
  settle_same x y None true e = absurd (some_none (sym e))
  settle_same x y None false e = subst (Recodes x) (some_same x y e) refl

  stays_same : (h : Group) (x y : Item) → stays ks h x ≡ Some y → Recodes x y
  stays_same h x y e = settle_same x y (find x.dot h.items) (has h.runs x.dot) e

  settle_proper : (x y : Item) (o : Option Item) (b : Bool) → ((z : Item) → o ≡ Some z → Proper ks z) → Proper ks x → settle ks x o b ≡ Some y → Proper ks y
  settle_proper x y (Some z) b q p e = subst (Proper ks) (some_same (meet ks x z) y e) (proper_meet ks x z p (q z refl))
  settle_proper x y None true q p e = absurd (some_none (sym e))
  settle_proper x y None false q p e = subst (Proper ks) (some_same x y e) p

  module _ (g h : Group) (fg : Formed ks g) (fh : Formed ks h) where
    abbrev staying : List Item
    staying = keep (stays ks h) g.items

    abbrev coming : List Item
    coming = keep (comes g) h.items

    coming_apart : Apart coming
    coming_apart = keep_apart (comes g) (comes_same g) h.items fh.apart

    staying_known : AllByRecursion (Known g.runs) staying
    staying_known = all_keep (stays ks h) (Known g.runs) (Known g.runs) (λ x y e k. ap (λ z. has g.runs z.dot) (stays_same h x y e) ∙ k) g.items fg.known

    coming_free : Free staying coming
    coming_free = all_keep (comes g) (Proper ks) (λ y. Absent y.dot staying)
        (λ x y e _. subst (λ z. Absent z.dot staying) (came g x y e).1 (unknown_absent g.runs x.dot staying staying_known (came g x y e).0)) h.items fh.proper

    pub has_joined : (d : Dot) → has (joined ks g h).runs d ≡ (has g.runs d || has h.runs d)
    has_joined d = sets.has_union g.runs h.runs d (canonical_from g.runs fg.one_form) (canonical_from h.runs fh.one_form)

    pub find_joined : (d : Dot) → find d (joined ks g h).items ≡ join_found ks (has g.runs d) (has h.runs d) (find d g.items) (find d h.items)
    find_joined d =
        find_inserts staying coming d coming_apart coming_free
        ∙ ap₂ option_or (find_keep (comes g) (comes_same g) h.items d fh.apart) (find_keep (stays ks h) (stays_same h) g.items d fg.apart)
        ∙ go (find d g.items) (find d h.items) refl refl
      where
        alone : (b : Bool) (y : Item) → option_or (cond b None (Some y)) None ≡ cond b None (Some y)
        alone true y = refl
        alone false y = refl

        unmet : (x : Item) (b : Bool) → settle ks x None b ≡ cond b None (Some x)
        unmet x true = refl
        unmet x false = refl

        stayed : (x : Item) (p : Option Item) → find d g.items ≡ Some x → find d h.items ≡ p → stays ks h x ≡ settle ks x p (has h.runs d)
        stayed x p e f = ap (λ c. settle ks x (find c h.items) (has h.runs c)) (found_at d g.items x e) ∙ ap (λ q. settle ks x q (has h.runs d)) f

        go : (o p : Option Item) → find d g.items ≡ o → find d h.items ≡ p → option_or (bound p (comes g)) (bound o (stays ks h)) ≡ join_found ks (has g.runs d) (has h.runs d) o p
        go None None e f = refl
        go None (Some y) e f = ap (λ c. option_or (cond (has g.runs c) None (Some y)) None) (found_at d h.items y f) ∙ alone (has g.runs d) y
        go (Some x) None e f = stayed x None e f ∙ unmet x (has h.runs d)
        go (Some x) (Some y) e f =
            ap₂ option_or (cond-true (has g.runs y.dot) None (Some y) (ap (has g.runs) (found_at d h.items y f) ∙ found_known ks g d x fg e)) (stayed x (Some y) e f)

    pub fate_joined : (d : Dot) → fate (joined ks g h) d ≡ join_fates ks (fate g d) (fate h d)
    fate_joined d = ap₂ fate_of (find_joined d) (has_joined d) ∙ law (has g.runs d) (has h.runs d) (find d g.items) (find d h.items)
      where
        law : (b c : Bool) (o p : Option Item) → fate_of (join_found ks b c o p) (b || c) ≡ join_fates ks (fate_of o b) (fate_of p c)
        law b c (Some x) (Some y) = refl
        law true true (Some x) None = refl
        law false true (Some x) None = refl
        law b false (Some x) None = refl
        law true c None (Some y) = refl
        law false c None (Some y) = refl
        law true true None None = refl
        law true false None None = refl
        law false c None None = refl

    pub joined_formed : Formed ks (joined ks g h)
    joined_formed = record {
      one_form = sets.union_stays_canonical g.runs h.runs fg.one_form fh.one_form;
      ascends = inserts_ascend staying coming coming_apart coming_free (keep_ascends (stays ks h) (stays_same h) g.items fg.ascends);
      apart = inserts_apart staying coming coming_apart coming_free (keep_apart (stays ks h) (stays_same h) g.items fg.apart);
      proper = all_inserts staying (Proper ks) coming
          (all_keep (comes g) (Proper ks) (Proper ks) (λ x y e p. subst (Proper ks) (came g x y e).1 p) h.items fh.proper)
          (all_keep (stays ks h) (Proper ks) (Proper ks)
          (λ x y e p. settle_proper x y (find x.dot h.items) (has h.runs x.dot) (λ z f. found_all (Proper ks) x.dot h.items z fh.proper f) p e) g.items fg.proper);
      known = all_inserts staying (Known (joined ks g h).runs) coming
          (all_keep (comes g) (Known h.runs) (Known (joined ks g h).runs)
          (λ x y e k. has_joined y.dot ∙ or_right (has g.runs y.dot) (has h.runs y.dot) (ap (λ z. has h.runs z.dot) (comes_same g x y e) ∙ k)) h.items fh.known)
          (All-weaker (Known g.runs) (Known (joined ks g h).runs) (λ x k. has_joined x.dot ∙ or_left (has g.runs x.dot) (has h.runs x.dot) k) staying staying_known);
    }

    -- a list in order that has at each dot what the join has is the join's
    pub is_joined : (xs : List Item) → Ascends xs → Apart xs
        → ((d : Dot) → find d xs ≡ join_found ks (has g.runs d) (has h.runs d) (find d g.items) (find d h.items)) → xs ≡ (joined ks g h).items
    is_joined xs a p e = lists_same xs (joined ks g h).items a joined_formed.ascends p joined_formed.apart (λ d. e d ∙ sym (find_joined d))

  pub empty_formed : Formed ks empty
  empty_formed = record { one_form = refl; ascends = tt; apart = tt; proper = tt; known = tt }

  pub onto_formed : (g : Group) (gs : List Group) → Formed ks g → AllByRecursion (Formed ks) gs → Formed ks (fold (joined ks) g gs)
  onto_formed g [] fg fs = fg
  onto_formed g (h ∷ hs) fg fs = onto_formed (joined ks g h) hs (joined_formed g h fg fs.0) fs.1

  pub all_formed : (gs : List Group) → AllByRecursion (Formed ks) gs → Formed ks (joined_all ks gs)
  all_formed gs fs = onto_formed empty gs empty_formed fs

-- a group is told by its fates

abbrev is_known : Fate → Bool
is_known unknown = false
is_known dead = true
is_known (live x) = true

abbrev living : Fate → Option Item
living unknown = None
living dead = None
living (live x) = Some x

has_fate : (o : Option Item) (b : Bool) → ((x : Item) → o ≡ Some x → b ≡ true) → b ≡ is_known (fate_of o b)
has_fate (Some x) b k = k x refl
has_fate None true k = refl
has_fate None false k = refl

find_fate : (o : Option Item) (b : Bool) → o ≡ living (fate_of o b)
find_fate (Some x) b = refl
find_fate None true = refl
find_fate None false = refl

pub group_ext : (ks : List ValueKind) (g h : Group) → Formed ks g → Formed ks h → ((d : Dot) → fate g d ≡ fate h d) → g ≡ h
group_ext ks g h fg fh e = λ i. record { items = same_items i; runs = same_runs i }
  where
    known : (k : Group) (d : Dot) → Formed ks k → has k.runs d ≡ is_known (fate k d)
    known k d fk = has_fate (find d k.items) (has k.runs d) (λ x. found_known ks k d x fk)

    same_runs : g.runs ≡ h.runs
    same_runs = sets.ext g.runs h.runs (canonical_from g.runs fg.one_form) (canonical_from h.runs fh.one_form)
        (λ d. known g d fg ∙ ap is_known (e d) ∙ sym (known h d fh))

    same_items : g.items ≡ h.items
    same_items = lists_same g.items h.items fg.ascends fh.ascends fg.apart fh.apart
        (λ d. find_fate (find d g.items) (has g.runs d) ∙ ap living (e d) ∙ sym (find_fate (find d h.items) (has h.runs d)))
