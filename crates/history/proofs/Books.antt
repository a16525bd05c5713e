-- The book of items put and dots struck: what it says of each dot, and that the book of two lots is the join of their books.
use Rattle.std.proofs.Common.{◌≡◌, ℕ, Bool, true, false, cond, not, ◌||◌, ◌⊎◌, List, [], ◌∷◌, ◌++◌, Some, None, Option, sym, refl, ap, ◌∙◌, subst, ap₂, inl, inr, arith}
use Rattle.std.specs.List.{slice_get, AllByRecursion}
use Rattle.std.proofs.lemmas.Bool.Decides.{nat_tests}
use Rattle.std.proofs.lemmas.Bool.{cases_Bool, and_parts, and_from, leb-true, eq-eqb, cond-true, not-true, or_left}
use Rattle.std.proofs.ByRecursion.{All-weaker, kept_by_passes}
use Rattle.causal.specs.declared.dots.Dot.{Dot}
use Rattle.causal.specs.Dots.{same_dot, is_dot, is_replica, is_counter}
use Rattle.causal.specs.Places.{same_place}
use Rattle.kinds.specs.Kinds.{ValueKind}
use Rattle.causal.specs.Runs.{in_run, has, single}
use Rattle.causal.proofs.OrderLaws.{places_total}
use Rattle.causal.proofs.RunFacts.{Sound, Canonical, canonical_test}
use Rattle.causal.proofs.RunSets.{has_insert, insert_canonical}
use Rattle.stores.specs.Items.{Item, Ascends, Apart, has_dot, stands, find, strike_items, recode}
use Rattle.stores.specs.Puts.{fits_kind, fits_part}
use Rattle.stores.specs.Sound.{Proper}
use Rattle.groups.specs.Groups.{Known, Formed, Fate, unknown, dead, live, fate_of, fate, join_codes, one_spot, meet, joined, join_fates}
use Rattle.stores.proofs.ItemOrder.{dot_equal}
use Rattle.stores.proofs.Stays.{some_none, ascends_insert, apart_insert}
use Rattle.stores.proofs.Lookups.{some_same, find_insert, find_strike}
use Rattle.stores.proofs.Held.{absent_stands}
use Rattle.groups.proofs.Keeps.{all_found}
use Rattle.groups.proofs.Meets.{codes_fit}
use Rattle.groups.proofs.Joins.{found_at, fate_joined, joined_formed, group_ext}
use Rattle.reading.specs.Reading.{among, dots_of}
use Rattle.calls.specs.Actions.{runs_for}
use Rattle.history.specs.Sets.{◌∈◌}
use Rattle.history.specs.Books.{over, gathered, without, book_of}
use Rattle.history.proofs.Members.{in_left, in_right, all_both, among_append, kept_ascends, kept_apart, dots_append}

abbrev pub Dotted : List Dot → Type 0
Dotted ds = AllByRecursion (λ d. is_dot d ≡ true) ds

-- at one part, place and dot
pub record Same (x y : Item) : Type 0 where
  pub part : x.part ≡ y.part
  pub place : x.place ≡ y.place
  pub dot : x.dot ≡ y.dot

pub same_self : (x : Item) → Same x x
same_self x = record { part = refl; place = refl; dot = refl }

pub same_trans : (x y w : Item) → Same x y → Same y w → Same x w
same_trans x y w f g = record { part = f.part ∙ g.part; place = f.place ∙ g.place; dot = f.dot ∙ g.dot }

pub same_turned : (x y : Item) → Same x y → Same y x
same_turned x y f = record { part = sym f.part; place = sym f.place; dot = sym f.dot }

-- two items at one dot are at one place
abbrev pub OnePlace : List Item → Type 0
OnePlace ps = (x y : Item) → x ∈ ps → y ∈ ps → x.dot ≡ y.dot → Same x y

-- runs of dots

pub dot_sound : (d : Dot) → is_dot d ≡ true → Sound (single d)
dot_sound d e =
    let a = and_parts (is_replica d.replica) (is_counter d.counter) e in
    let r = and_parts _ _ a.0 in
    let c = and_parts _ _ a.1 in
    record { from_one = leb-true _ _ r.0; replica_low = leb-true _ _ r.1; begins = leb-true _ _ c.0; holds = omega arith; counter_low = leb-true _ _ c.1 }

in_single : (d e : Dot) → in_run (single d) e ≡ same_dot d e
unfolding in_run same_dot
in_single d e = grind (arith, nat_tests)

pub runs_canonical : (ds : List Dot) → Dotted ds → Canonical (runs_for ds)
runs_canonical [] p = tt
runs_canonical (d ∷ ds) p = insert_canonical (single d) (runs_for ds) (dot_sound d p.0) (runs_canonical ds p.1)

pub has_runs : (ds : List Dot) (d : Dot) → Dotted ds → has (runs_for ds) d ≡ among d ds
has_runs [] d p = refl
has_runs (e ∷ ds) d p = has_insert (single e) (runs_for ds) d (dot_sound e p.0) (runs_canonical ds p.1) ∙ ap₂ (λ a b. a || b) (in_single e d) (has_runs ds d p.1)

struck_absent : (d : Dot) (xs : List Item) → stands d (strike_items d xs) ≡ false
struck_absent d xs = absent_stands d (strike_items d xs) (All-weaker (λ x. not (has_dot d x) ≡ true) (λ x. has_dot d x ≡ false) (λ x e. not-true (has_dot d x) e) (strike_items d xs) (kept_by_passes (λ x. not (has_dot d x)) xs))

module _ (ks : List ValueKind) where
  -- what the items put come to at a dot
  abbrev pub settled : List Item → Dot → Option Item
  settled [] d = None
  settled (x ∷ xs) d = cond (same_dot x.dot d) (Some (over ks x (settled xs d))) (settled xs d)

  over_dot : (x : Item) (o : Option Item) → (over ks x o).dot ≡ x.dot
  over_dot x None = refl
  over_dot x (Some y) = refl

  free : (x : Item) (xs : List Item) → stands (over ks x (find x.dot (gathered ks xs))).dot (strike_items x.dot (gathered ks xs)) ≡ false
  free x xs = ap (λ d. stands d (strike_items x.dot (gathered ks xs))) (over_dot x (find x.dot (gathered ks xs))) ∙ struck_absent x.dot (gathered ks xs)

  pub gathered_ascends : (ps : List Item) → Ascends (gathered ks ps)
  gathered_ascends [] = tt
  gathered_ascends (x ∷ xs) = ascends_insert (over ks x (find x.dot (gathered ks xs))) _ (free x xs) (kept_ascends (λ y. not (has_dot x.dot y)) (gathered ks xs) (gathered_ascends xs))

  pub gathered_apart : (ps : List Item) → Apart (gathered ks ps)
  gathered_apart [] = tt
  gathered_apart (x ∷ xs) = apart_insert (over ks x (find x.dot (gathered ks xs))) _ (free x xs) (kept_apart (λ y. not (has_dot x.dot y)) (gathered ks xs) (gathered_apart xs))

  pub find_gathered : (ps : List Item) (d : Dot) → find d (gathered ks ps) ≡ settled ps d
  find_gathered [] d = refl
  find_gathered (x ∷ xs) d =
      let o = find x.dot (gathered ks xs) in
      let y = over ks x o in
      find_insert y d (strike_items x.dot (gathered ks xs)) (free x xs)
      ∙ ap₂ (λ e r. cond (same_dot e d) (Some y) r) (over_dot x o) (find_strike x.dot (gathered ks xs) d)
      ∙ go (cases_Bool (same_dot x.dot d)) (find_gathered xs x.dot) (find_gathered xs d)
    where
      go : (same_dot x.dot d ≡ true) ⊎ (same_dot x.dot d ≡ false) → find x.dot (gathered ks xs) ≡ settled xs x.dot → find d (gathered ks xs) ≡ settled xs d
          → cond (same_dot x.dot d) (Some (over ks x (find x.dot (gathered ks xs)))) (cond (same_dot x.dot d) None (find d (gathered ks xs))) ≡ cond (same_dot x.dot d) (Some (over ks x (settled xs d))) (settled xs d)
      go (inl e) f g = let p = dot_equal x.dot d e in rw e (ap (λ o. Some (over ks x o)) (f ∙ ap (settled xs) p))
      go (inr e) f g = rw e g

  pub find_without : (ss : List Dot) (xs : List Item) (d : Dot) → find d (without ss xs) ≡ cond (among d ss) None (find d xs)
  find_without ss [] d = none (among d ss)
    where
      none : (b : Bool) → None ≡ cond {A = Option Item} b None None
      none true = refl
      none false = refl
  find_without ss (x ∷ xs) d = go (cases_Bool (same_dot x.dot d)) (among x.dot ss) refl (find_without ss xs d)
    where
      go : (same_dot x.dot d ≡ true) ⊎ (same_dot x.dot d ≡ false) → (b : Bool) → among x.dot ss ≡ b → find d (without ss xs) ≡ cond (among d ss) None (find d xs)
          → find d (cond (not b) (x ∷ without ss xs) (without ss xs)) ≡ cond (among d ss) None (cond (same_dot x.dot d) (Some x) (find d xs))
      go (inl s) true e i = let a : among d ss ≡ true = ap (λ v. among v ss) (sym (dot_equal x.dot d s)) ∙ e in i ∙ cond-true (among d ss) _ _ a ∙ sym (cond-true (among d ss) _ _ a)
      go (inl s) false e i = let a : among d ss ≡ false = ap (λ v. among v ss) (sym (dot_equal x.dot d s)) ∙ e in rw (s, a)
      go (inr s) true e i = rw s i
      go (inr s) false e i = rw s i

  -- what the items put and the dots struck say of a dot
  abbrev pub told : Option Item → Bool → Fate
  told o true = dead
  told None false = unknown
  told (Some x) false = live x

  abbrev pub PutKnown : Option Item → Bool → Type 0
  PutKnown o b = ((o ≡ None) × (b ≡ false)) ⊎ ((x : Item) × (o ≡ Some x) × (b ≡ true))

  pub put_known : (ps : List Item) (d : Dot) → PutKnown (settled ps d) (among d (dots_of ps))
  put_known [] d = inl (refl, refl)
  put_known (x ∷ xs) d = go (cases_Bool (same_dot x.dot d)) (put_known xs d)
    where
      go : (same_dot x.dot d ≡ true) ⊎ (same_dot x.dot d ≡ false) → PutKnown (settled xs d) (among d (dots_of xs)) → PutKnown (settled (x ∷ xs) d) (among d (dots_of (x ∷ xs)))
      go (inl e) i = inr (over ks x (settled xs d), rw e, rw e)
      go (inr e) (inl i) = inl (rw e i.0, rw e i.1)
      go (inr e) (inr i) = inr (i.0, rw e i.1, rw e i.2)

  -- what stands at a dot is at the place of an item put there
  abbrev pub From : List Item → Dot → Item → Type 0
  From ps d x = (y : Item) × (y ∈ ps) × Same x y × (y.dot ≡ d)

  pub over_same : (x : Item) (o : Option Item) → Same (over ks x o) x
  over_same x None = same_self x
  over_same x (Some y) = record { part = refl; place = refl; dot = refl }

  pub settled_from : (ps : List Item) (d : Dot) (x : Item) → settled ps d ≡ Some x → From ps d x
  settled_from [] d x e = absurd (some_none (sym e))
  settled_from (y ∷ ps) d x e = go (cases_Bool (same_dot y.dot d)) (settled_from ps d x)
    where
      go : (same_dot y.dot d ≡ true) ⊎ (same_dot y.dot d ≡ false) → (settled ps d ≡ Some x → From ps d x) → From (y ∷ ps) d x
      go (inl s) i =
          let f : Some (over ks y (settled ps d)) ≡ Some x = ap (λ b. cond b (Some (over ks y (settled ps d))) (settled ps d)) (sym s) ∙ e in
          (y, inl refl, subst (λ v. Same v y) (some_same _ x f) (over_same y (settled ps d)), dot_equal y.dot d s)
      go (inr s) i = let j = i (ap (λ b. cond b (Some (over ks y (settled ps d))) (settled ps d)) (sym s) ∙ e) in (j.0, inr j.1, j.2, j.3)

  -- all are proper
  abbrev pub Good : List Item → Type 0
  Good ps = (x : Item) → x ∈ ps → Proper ks x

  pub over_proper : (x : Item) (o : Option Item) → Proper ks x → ((y : Item) → o ≡ Some y → Proper ks y × (y.part ≡ x.part)) → Proper ks (over ks x o)
  over_proper x None c h = c
  over_proper x (Some y) c h =
      let g = h y refl in
      record { placed = c.placed; address = c.address; fits = codes_fit (slice_get ks x.part) x.code y.code c.fits (ap (λ p. fits_part ks p y.code) (sym g.1) ∙ g.0.fits) }

  pub settled_proper : (ps : List Item) (d : Dot) → Good ps → OnePlace ps → (x : Item) → settled ps d ≡ Some x → Proper ks x
  settled_proper [] d c one x e = absurd (some_none (sym e))
  settled_proper (y ∷ ps) d c one x e = go (cases_Bool (same_dot y.dot d)) (settled_proper ps d (λ w m. c w (inr m)) (λ v w m n. one v w (inr m) (inr n)))
    where
      go : (same_dot y.dot d ≡ true) ⊎ (same_dot y.dot d ≡ false) → ((x : Item) → settled ps d ≡ Some x → Proper ks x) → Proper ks x
      go (inl s) i =
          let f : Some (over ks y (settled ps d)) ≡ Some x = ap (λ b. cond b (Some (over ks y (settled ps d))) (settled ps d)) (sym s) ∙ e in
          subst (Proper ks) (some_same _ x f) (over_proper y (settled ps d) (c y (inl refl)) (λ w q. (i w q, part w q)))
        where
          part : (w : Item) → settled ps d ≡ Some w → w.part ≡ y.part
          part w q = let a = settled_from ps d w q in a.2.part ∙ (one a.0 y (inr a.1) (inl refl) (a.3 ∙ sym (dot_equal y.dot d s))).part
      go (inr s) i = i x (ap (λ b. cond b (Some (over ks y (settled ps d))) (settled ps d)) (sym s) ∙ e)

  module _ (ps : List Item) (ss : List Dot) where
    pub book_find : (d : Dot) → find d (book_of ks ps ss).items ≡ cond (among d ss) None (settled ps d)
    book_find d = find_without ss (gathered ks ps) d ∙ ap (λ o. cond (among d ss) None o) (find_gathered ps d)

    pub book_from : (d : Dot) (x : Item) → find d (book_of ks ps ss).items ≡ Some x → (among d ss ≡ false) × (settled ps d ≡ Some x)
    book_from d x e = go (among d ss) refl (sym (book_find d) ∙ e)
      where
        go : (b : Bool) → among d ss ≡ b → cond b None (settled ps d) ≡ Some x → (among d ss ≡ false) × (settled ps d ≡ Some x)
        go true a e = absurd (some_none (sym e))
        go false a e = (a, e)

  module _ (ps : List Item) (ss : List Dot) (pp : Dotted (dots_of ps)) (sp : Dotted ss) where
    pub book_has : (d : Dot) → has (book_of ks ps ss).runs d ≡ (among d (dots_of ps) || among d ss)
    book_has d = has_runs (dots_of ps ++ ss) d (all_both (λ d. is_dot d ≡ true) (dots_of ps) ss pp sp) ∙ among_append (dots_of ps) ss d

    pub fate_book : (d : Dot) → fate (book_of ks ps ss) d ≡ told (settled ps d) (among d ss)
    fate_book d = ap₂ fate_of (book_find ps ss d) (book_has d) ∙ go (among d ss) (put_known ps d)
      where
        go : (b : Bool) → PutKnown (settled ps d) (among d (dots_of ps)) → fate_of (cond b None (settled ps d)) (among d (dots_of ps) || b) ≡ told (settled ps d) b
        go true (inl h) = ap (λ t. fate_of None (t || true)) h.1
        go true (inr h) = ap (λ t. fate_of None (t || true)) h.2
        go false (inl h) = ap₂ (λ o t. fate_of o (t || false)) h.0 h.1 ∙ sym (ap (λ o. told o false) h.0)
        go false (inr h) = ap₂ (λ o t. fate_of o (t || false)) h.1 h.2 ∙ sym (ap (λ o. told o false) h.1)

    pub formed_book : Good ps → OnePlace ps → Formed ks (book_of ks ps ss)
    formed_book good one =
        let a = kept_apart (λ x. not (among x.dot ss)) (gathered ks ps) (gathered_apart ps) in
        record {
          one_form = canonical_test _ (runs_canonical (dots_of ps ++ ss) (all_both (λ d. is_dot d ≡ true) (dots_of ps) ss pp sp));
          ascends = kept_ascends (λ x. not (among x.dot ss)) (gathered ks ps) (gathered_ascends ps);
          apart = a;
          proper = all_found (Proper ks) (book_of ks ps ss).items a (λ d x e. settled_proper ps d good one x (book_from ps ss d x e).1);
          known = all_found (Known (book_of ks ps ss).runs) (book_of ks ps ss).items a (λ d x e. ap (has (book_of ks ps ss).runs) (found_at d (book_of ks ps ss).items x e) ∙ book_has d ∙ go d x (put_known ps d) (book_from ps ss d x e).1);
        }
      where
        go : (d : Dot) (x : Item) → PutKnown (settled ps d) (among d (dots_of ps)) → settled ps d ≡ Some x → (among d (dots_of ps) || among d ss) ≡ true
        go d x (inl h) e = absurd (some_none (sym e ∙ h.0))
        go d x (inr h) e = or_left _ _ h.2

  abbrev both : Option Item → Option Item → Option Item
  both None o = o
  both (Some x) o = Some (over ks x o)

  codes_assoc : (o : Option ValueKind) (a b c : ℕ) → fits_kind o a ≡ true → fits_kind o b ≡ true → fits_kind o c ≡ true → join_codes o (join_codes o a b) c ≡ join_codes o a (join_codes o b c)
  codes_assoc None a b c p q r = refl
  codes_assoc (Some k) a b c p q r = k.associates a b c p q r

  over_over : (x : Item) (a o : Option Item) → Proper ks x → ((y : Item) → a ≡ Some y → Proper ks y × (y.part ≡ x.part)) → ((y : Item) → o ≡ Some y → Proper ks y × (y.part ≡ x.part)) → over ks x (both a o) ≡ over ks (over ks x a) o
  over_over x None o c f g = refl
  over_over x (Some y) None c f g = refl
  over_over x (Some y) (Some w) c f g =
      let fy = f y refl in
      let fw = g w refl in
      ap (recode x) (ap (λ p. join_codes (slice_get ks x.part) x.code (join_codes (slice_get ks p) y.code w.code)) fy.1
      ∙ sym (codes_assoc (slice_get ks x.part) x.code y.code w.code c.fits (ap (λ p. fits_part ks p y.code) (sym fy.1) ∙ fy.0.fits) (ap (λ p. fits_part ks p w.code) (sym fw.1) ∙ fw.0.fits)))

  pub settled_append : (ps qs : List Item) (d : Dot) → Good (ps ++ qs) → OnePlace (ps ++ qs) → settled (ps ++ qs) d ≡ both (settled ps d) (settled qs d)
  settled_append [] qs d c one = refl
  settled_append (x ∷ ps) qs d c one =
      ap (λ o. cond (same_dot x.dot d) (Some (over ks x o)) o) (settled_append ps qs d (λ w m. c w (inr m)) (λ v w m n. one v w (inr m) (inr n))) ∙ go (cases_Bool (same_dot x.dot d))
    where
      here : (rs : List Item) → ((w : Item) → w ∈ rs → w ∈ (ps ++ qs)) → same_dot x.dot d ≡ true → (y : Item) → settled rs d ≡ Some y → Proper ks y × (y.part ≡ x.part)
      here rs up s y q =
          let a = settled_from rs d y q in (
            settled_proper rs d (λ w m. c w (inr (up w m))) (λ v w m n. one v w (inr (up v m)) (inr (up w n))) y q,
            a.2.part ∙ (one a.0 x (inr (up a.0 a.1)) (inl refl) (a.3 ∙ sym (dot_equal x.dot d s))).part,
          )

      go : (same_dot x.dot d ≡ true) ⊎ (same_dot x.dot d ≡ false) → cond (same_dot x.dot d) (Some (over ks x (both (settled ps d) (settled qs d)))) (both (settled ps d) (settled qs d)) ≡ both (cond (same_dot x.dot d) (Some (over ks x (settled ps d))) (settled ps d)) (settled qs d)
      go (inl s) = rw s (ap (λ y. Some y) (over_over x (settled ps d) (settled qs d) (c x (inl refl)) (here ps (λ w m. in_left w ps qs m) s) (here qs (λ w m. in_right w ps qs m) s)))
      go (inr s) = rw s

  -- two items at one place meet as one over the other
  met : (x y : Item) → Same x y → meet ks x y ≡ over ks x (Some y)
  unfolding meet
  met x y f = ap (recode x) (cond-true (one_spot x y) (join_codes (slice_get ks x.part) x.code y.code) x.code (and_from _ _ (eq-eqb x.part y.part f.part) (ap (same_place x.place) (sym f.place) ∙ places_total.same_self x.place)))

  told_both : (o p : Option Item) (a b : Bool) → ((x y : Item) → o ≡ Some x → p ≡ Some y → Same x y) → told (both o p) (a || b) ≡ join_fates ks (told o a) (told p b)
  told_both o p true true f = refl
  told_both o None true false f = refl
  told_both o (Some y) true false f = refl
  told_both None p false true f = refl
  told_both (Some x) p false true f = refl
  told_both None p false false f = refl
  told_both (Some x) None false false f = refl
  told_both (Some x) (Some y) false false f = ap (λ w. live w) (sym (met x y (f x y refl refl)))

  -- what two lots say of one dot is at one place, if no dot is put at two places
  pub settled_same : (ps qs : List Item) (d : Dot) → OnePlace (ps ++ qs) → (x y : Item) → settled ps d ≡ Some x → settled qs d ≡ Some y → Same x y
  settled_same ps qs d one x y e f =
      let a = settled_from ps d x e in
      let b = settled_from qs d y f in
      same_trans x a.0 y a.2 (same_trans a.0 b.0 y (one a.0 b.0 (in_left a.0 ps qs a.1) (in_right b.0 ps qs b.1) (a.3 ∙ sym b.3)) (same_turned y b.0 b.2))

  pub dotted_append : (ps qs : List Item) → Dotted (dots_of ps) → Dotted (dots_of qs) → Dotted (dots_of (ps ++ qs))
  dotted_append ps qs p q = rw (dots_append ps qs) (all_both (λ d. is_dot d ≡ true) (dots_of ps) (dots_of qs) p q)

  -- the book of two lots together is the join of their books
  pub book_both : (ps qs : List Item) (ss ts : List Dot) → Dotted (dots_of ps) → Dotted (dots_of qs) → Dotted ss → Dotted ts → Good (ps ++ qs) → OnePlace (ps ++ qs)
      → book_of ks (ps ++ qs) (ss ++ ts) ≡ joined ks (book_of ks ps ss) (book_of ks qs ts)
  book_both ps qs ss ts pp pq ws wt good one =
      let up = λ (x : Item) (m : x ∈ ps). in_left x ps qs m in
      let uq = λ (x : Item) (m : x ∈ qs). in_right x ps qs m in
      let fp = formed_book ps ss pp ws (λ x m. good x (up x m)) (λ x y m n. one x y (up x m) (up y n)) in
      let fq = formed_book qs ts pq wt (λ x m. good x (uq x m)) (λ x y m n. one x y (uq x m) (uq y n)) in
      let dp = dotted_append ps qs pp pq in
      let ds = all_both (λ d. is_dot d ≡ true) ss ts ws wt in
      group_ext ks _ _ (formed_book (ps ++ qs) (ss ++ ts) dp ds good one) (joined_formed ks _ _ fp fq)
      (λ d. fate_book (ps ++ qs) (ss ++ ts) dp ds d
      ∙ ap₂ told (settled_append ps qs d good one) (among_append ss ts d)
      ∙ told_both (settled ps d) (settled qs d) (among d ss) (among d ts) (settled_same ps qs d one)
      ∙ sym (fate_joined ks _ _ fp fq d ∙ ap₂ (join_fates ks) (fate_book ps ss pp ws d) (fate_book qs ts pq wt d)))
