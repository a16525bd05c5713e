-- The deeds of an edit: they put no dot at two places, and their groups come to the book of the edit.
use Rattle.std.proofs.Common.{◌≡◌, ℕ, suc, ◌+◌, ◌≤◌, max, Bool, true, false, cond, not, ◌&&◌, leb, ◌⊎◌, List, [], ◌∷◌, ◌++◌, map, Some, None, fold, filter, Option, sym, refl, ap, ◌∙◌, subst, ap₂, inl, inr, ⊎_elim, append_assoc, arith}
use Rattle.std.proofs.lemmas.Bool.{or_left, eqb-true, and_parts, and_from, le-leb, leb-false, both_ways}
use Rattle.std.specs.List.{slice_get, AllByRecursion}
use Rattle.refusals.specs.declared.Refusal.{Refusal}
use Rattle.causal.specs.declared.dots.Dot.{Dot}
use Rattle.causal.specs.declared.places.Place.{Place}
use Rattle.causal.specs.Dots.{is_dot, is_replica, is_counter, last_counter}
use Rattle.causal.specs.Places.{is_place}
use Rattle.kinds.specs.Kinds.{ValueKind}
use Rattle.causal.specs.Runs.{has, highest}
use Rattle.causal.proofs.RunHighest.{below_highest, highest_union, fresh}
use Rattle.stores.specs.Items.{Item, Ascends, Apart, has_dot, find, precedes}
use Rattle.stores.specs.Puts.{is_address, fits_part, first_of}
use Rattle.stores.specs.Sound.{Proper, FewParts}
use Rattle.groups.specs.Groups.{Group, Known, Formed, joined}
use Rattle.stores.proofs.ItemOrder.{dot_turned}
use Rattle.stores.proofs.Stays.{some_none}
use Rattle.stores.proofs.Lookups.{some_same, find_first, lists_same}
use Rattle.groups.proofs.Keeps.{find_past}
use Rattle.groups.proofs.Meets.{codes_fit}
use Rattle.groups.proofs.Joins.{found_at}
use Rattle.reading.specs.Reading.{among, dots_of}
use Rattle.records.specs.Written.{Narrow}
use Rattle.groups.specs.Limits.{joining_fault}
use Rattle.refusals.specs.Table.{refuse_if}
use Rattle.calls.specs.Actions.{Action, set, clear, amend, has_key, Deed, is_at, lies_under, standing, next_dot, amended, deed, deed_fault, runs_for, group_of}
use Rattle.calls.specs.Edits.{deeds, deeds_fault, joinings_fault}
use Rattle.calls.specs.Faults.{used_up}
use Rattle.history.specs.Sets.{◌∈◌}
use Rattle.history.specs.Books.{gathered, book_of}
use Rattle.history.specs.Worlds.{Setting}
use Rattle.history.specs.History.{puts_of, strikes_of, planned, planned_fault, doing_fault}
use Rattle.history.proofs.Members.{in_left, in_right, in_either, nil_right, all_at, all_from, all_left, all_right, all_both, in_kept, in_map, map_in, among_in, in_among, kept_ascends, kept_apart}
use Rattle.history.proofs.Books.{Dotted, Same, same_self, same_trans, same_turned, OnePlace, Good, settled, settled_from, book_find, book_from, book_has, formed_book, book_both, gathered_ascends, gathered_apart, runs_canonical}
use Rattle.history.proofs.Histories.{proper_dot, good_dotted}
use Rattle.history.proofs.Actions.{Placed, Read, Coded}

-- at the place of one that was put
abbrev pub Stands : List Item → Item → Type 0
Stands ps x = (y : Item) × (y ∈ ps) × Same x y

pub find_in : (xs : List Item) (d : Dot) (x : Item) → find d xs ≡ Some x → x ∈ xs
find_in [] d x e = absurd (some_none (sym e))
find_in (y ∷ xs) d x e = go (has_dot d y) refl e (find_in xs d x)
  where
    go : (b : Bool) → has_dot d y ≡ b → cond b (Some y) (find d xs) ≡ Some x → (find d xs ≡ Some x → x ∈ xs) → x ∈ (y ∷ xs)
    go true s e i = inl (sym (some_same y x e))
    go false s e i = inr (i e)

pub in_find : (xs : List Item) (x : Item) → Apart xs → x ∈ xs → find x.dot xs ≡ Some x
in_find [] x a m = absurd m
in_find (y ∷ xs) x a (inl e) = ap (λ (v : Item). find v.dot (y ∷ xs)) e ∙ find_first y xs ∙ sym (ap (λ v. Some v) e)
in_find (y ∷ xs) x a (inr m) =
    let n : has_dot x.dot y ≡ false = dot_turned x.dot y.dot (all_at (λ w. has_dot y.dot w ≡ false) xs x a.0 m) in
    ap (λ b. cond b (Some y) (find x.dot xs)) n ∙ in_find xs x a.1 m

-- items in order and apart, none of them struck, are their own book

module _ (ks : List ValueKind) where
  settled_apart : (xs : List Item) (d : Dot) → Apart xs → settled ks xs d ≡ find d xs
  settled_apart [] d a = refl
  settled_apart (x ∷ xs) d a = go (has_dot d x) refl (settled_apart xs d a.1)
    where
      go : (b : Bool) → has_dot d x ≡ b → settled ks xs d ≡ find d xs → settled ks (x ∷ xs) d ≡ find d (x ∷ xs)
      go true s i = let n : settled ks xs d ≡ None = i ∙ find_past x xs d a.0 s in rw (s, n)
      go false s i = rw s i

  plain_items : (puts : List Item) (strikes : List Dot) → Ascends puts → Apart puts → ((x : Item) → x ∈ puts → among x.dot strikes ≡ false) → puts ≡ (book_of ks puts strikes).items
  plain_items puts strikes up apart kept =
      lists_same puts (book_of ks puts strikes).items up (kept_ascends (λ x. not (among x.dot strikes)) (gathered ks puts) (gathered_ascends ks puts)) apart (kept_apart (λ x. not (among x.dot strikes)) (gathered ks puts) (gathered_apart ks puts))
      (λ d. go d (find d puts) refl (among d strikes) refl ∙ ap (λ o. cond (among d strikes) None o) (sym (settled_apart puts d apart)) ∙ sym (book_find ks puts strikes d))
    where
      go : (d : Dot) (o : Option Item) → find d puts ≡ o → (b : Bool) → among d strikes ≡ b → find d puts ≡ cond (among d strikes) None (find d puts)
      go d o e false a = sym (ap (λ b. cond b None (find d puts)) a)
      go d None e true a = e ∙ sym (ap (λ b. cond b None (find d puts)) a)
      go d (Some x) e true a = absurd (both_ways (among d strikes) (ap (λ v. among v strikes) (sym (found_at d puts x e)) ∙ kept x (find_in puts d x e)) a)

  plain_group : (d : Deed) → Ascends d.puts → Apart d.puts → ((x : Item) → x ∈ d.puts → among x.dot d.strikes ≡ false) → group_of d ≡ book_of ks d.puts d.strikes
  plain_group d up apart kept = λ i. record { items = plain_items d.puts d.strikes up apart kept i; runs = runs_for (dots_of d.puts ++ d.strikes) }

  pub amended_ascends : (c : ℕ) (xs : List Item) → Ascends xs → Ascends (map (amended ks c) xs)
  amended_ascends c [] a = tt
  amended_ascends c (x ∷ xs) a = (each xs a.0, amended_ascends c xs a.1)
    where
      each : (ys : List Item) → AllByRecursion (λ y. precedes x y ≡ true) ys → AllByRecursion (λ y. precedes (amended ks c x) y ≡ true) (map (amended ks c) ys)
      each [] p = tt
      each (y ∷ ys) p = (p.0, each ys p.1)

  pub amended_apart : (c : ℕ) (xs : List Item) → Apart xs → Apart (map (amended ks c) xs)
  amended_apart c [] a = tt
  amended_apart c (x ∷ xs) a = (each xs a.0, amended_apart c xs a.1)
    where
      each : (ys : List Item) → AllByRecursion (λ y. has_dot x.dot y ≡ false) ys → AllByRecursion (λ y. has_dot x.dot y ≡ false) (map (amended ks c) ys)
      each [] p = tt
      each (y ∷ ys) p = (p.0, each ys p.1)

module _ (z : Setting) (few : FewParts z.kinds) (r : ℕ) (checked : is_replica r ≡ true) where
  abbrev ks : List ValueKind
  ks = z.kinds

  -- all that is known of the items put and dots struck so far; allp are the items put by anyone
  pub record Knowing (ps : List Item) (ss : List Dot) (allp : List Item) : Type 0 where
    pub struck : (d : Dot) → d ∈ ss → is_dot d ≡ true
    pub part : (x : Item) → x ∈ ps → x ∈ allp
    pub one : OnePlace allp
    pub good : Good ks allp
    pub narrow : (x : Item) → x ∈ allp → Narrow x
    pub own : (x : Item) → x ∈ allp → x.dot.replica ≡ r → x.dot.counter ≤ highest r (book_of ks ps ss).runs

  -- a deed's puts stand where others were put, or there is one, under a new dot
  pub record Fits (ps : List Item) (ss : List Dot) (d : Deed) : Type 0 where
    pub good : Good ks d.puts
    pub narrow : (x : Item) → x ∈ d.puts → Narrow x
    pub struck : (e : Dot) → e ∈ d.strikes → is_dot e ≡ true
    pub sort : ((x : Item) → x ∈ d.puts → Stands ps x) ⊎ ((n : Item) × (d.puts ≡ n ∷ []) × (n.dot ≡ next_dot r (book_of ks ps ss)))
    pub group : group_of d ≡ book_of ks d.puts d.strikes

  module _ (ps : List Item) (ss : List Dot) (allp : List Item) (k : Knowing ps ss allp) where
    abbrev now : Group
    now = book_of ks ps ss

    good_here : Good ks ps
    good_here x m = k.good x (k.part x m)

    one_place : OnePlace ps
    one_place x y m n = k.one x y (k.part x m) (k.part y n)

    ps_dotted : Dotted (dots_of ps)
    ps_dotted = good_dotted ks ps good_here

    ss_dotted : Dotted ss
    ss_dotted = all_from (λ d. is_dot d ≡ true) ss k.struck

    pub now_formed : Formed ks now
    now_formed = formed_book ks ps ss ps_dotted ss_dotted good_here one_place

    stands : (x : Item) → x ∈ now.items → Stands ps x
    stands x m = let f = settled_from ks ps x.dot x (book_from ks ps ss x.dot x (in_find now.items x now_formed.apart m)).1 in (f.0, f.1, f.2)

    proper_now : (x : Item) → x ∈ now.items → Proper ks x
    proper_now x m = all_at (Proper ks) now.items x now_formed.proper m

    dots_kept : (t : Item → Bool) (e : Dot) → e ∈ dots_of (filter t now.items) → (x : Item) × (x ∈ now.items) × (e ≡ x.dot)
    dots_kept t e m = let i = in_map (λ (x : Item). x.dot) (filter t now.items) e m in (i.0, (in_kept t now.items i.0 i.1).0, i.2)

    struck_dots : (t : Item → Bool) (e : Dot) → e ∈ dots_of (filter t now.items) → is_dot e ≡ true
    struck_dots t e m = let i = dots_kept t e m in ap is_dot i.2 ∙ proper_dot ks i.0 (proper_now i.0 i.1)

    same_narrow : (x y : Item) → Same x y → Narrow y → Narrow x
    same_narrow x y s n =
        let a = s.part in
        let b = ap (λ (l : Place). l.first) s.place in
        let c = ap (λ (l : Place). l.second) s.place in
        let d = ap (λ (l : Place). l.third) s.place in
        let e = ap (λ (l : Place). l.fourth) s.place in
        record { part = omega arith; first = omega arith; second = omega arith; third = omega arith; fourth = omega arith }

    new_dot : leb last_counter (highest r now.runs) ≡ false → is_dot (next_dot r now) ≡ true
    new_dot e =
        let h = leb-false last_counter (highest r now.runs) e in
        let c = highest r now.runs + 1 in
        let l : 1 ≤ c = omega arith in
        let m : c ≤ last_counter = omega arith in
        and_from (is_replica r) (is_counter c) checked (and_from (leb 1 c) (leb c last_counter) (le-leb 1 c l) (le-leb c last_counter m))

    refused_not : (f : Refusal) (b : Bool) → refuse_if b f ≡ None → b ≡ false
    refused_not f true e = absurd (some_none e)
    refused_not f false e = refl

    address : (l : Place) (d : Dot) → (is_place l && has_key l) ≡ true → is_dot d ≡ true → is_address l d ≡ true
    address l d p e = and_from _ _ p e

    set_fits : (p : ℕ) (l : Place) (c n : ℕ) → Placed ks p l → fits_part ks p c ≡ true → deed_fault r n (set p l c) now ≡ None → Fits ps ss (deed ks r (set p l c) now)
    set_fits p l c n q f e = record {
      good = λ w m. ⊎_elim (λ i. subst (Proper ks) (sym i) proper) (λ i. absurd i) m;
      narrow = λ w m. ⊎_elim (λ i. subst Narrow (sym i) thin) (λ i. absurd i) m;
      struck = struck_dots (is_at p l);
      sort = inr (x, refl, refl);
      group = plain_group ks (deed ks r (set p l c) now) (tt, tt) (tt, tt) (λ w m. ⊎_elim (λ i. ap (λ (v : Item). among v.dot (dots_of (standing now p l))) i ∙ unstruck) (λ i. absurd i) m);
    }
      where
        x : Item
        x = record { part = p; place = l; dot = next_dot r now; code = c }

        proper : Proper ks x
        proper = record { placed = q.part; address = address l (next_dot r now) q.place (new_dot (refused_not (used_up n) (leb last_counter (highest r now.runs)) e)); fits = f }

        thin : Narrow x
        thin = let a = q.part in let b = few.few in record { part = omega arith; first = q.keys.first; second = q.keys.second; third = q.keys.third; fourth = q.keys.fourth }

        unstruck : among (next_dot r now) (dots_of (standing now p l)) ≡ false
        unstruck = go (among (next_dot r now) (dots_of (standing now p l))) refl
          where
            go : (b : Bool) → among (next_dot r now) (dots_of (standing now p l)) ≡ b → b ≡ false
            go false a = refl
            go true a =
                let i = dots_kept (is_at p l) (next_dot r now) (in_among (dots_of (standing now p l)) (next_dot r now) a) in
                absurd (both_ways (has now.runs (next_dot r now)) (fresh r now.runs) (ap (has now.runs) i.2 ∙ all_at (Known now.runs) now.items i.0 now_formed.known i.1))

    clear_fits : (p : ℕ) (l : Place) → Fits ps ss (deed ks r (clear p l) now)
    clear_fits p l = record {
      good = λ w m. absurd m;
      narrow = λ w m. absurd m;
      struck = struck_dots (lies_under p l);
      sort = inl (λ w m. absurd m);
      group = plain_group ks (deed ks r (clear p l) now) tt tt (λ w m. absurd m);
    }

    amend_fits : (p : ℕ) (l : Place) (c : ℕ) → fits_part ks p c ≡ true → Fits ps ss (deed ks r (amend p l c) now)
    amend_fits p l c f = record {
      good = λ w m. let i = back w m in subst (Proper ks) (sym i.2) (proper i.0 i.1);
      narrow = λ w m. let i = back w m in let s = there w m in same_narrow w s.0 s.2 (k.narrow s.0 (k.part s.0 s.1));
      struck = λ e m. absurd m;
      sort = inl there;
      group = plain_group ks (deed ks r (amend p l c) now) (amended_ascends ks c (standing now p l) (kept_ascends (is_at p l) now.items now_formed.ascends)) (amended_apart ks c (standing now p l) (kept_apart (is_at p l) now.items now_formed.apart)) (λ w m. refl);
    }
      where
        back : (w : Item) → w ∈ map (amended ks c) (standing now p l) → (x : Item) × ((x ∈ now.items) × (is_at p l x ≡ true)) × (w ≡ amended ks c x)
        back w m = let i = in_map (amended ks c) (standing now p l) w m in (i.0, in_kept (is_at p l) now.items i.0 i.1, i.2)

        proper : (x : Item) → (x ∈ now.items) × (is_at p l x ≡ true) → Proper ks (amended ks c x)
        proper x m =
            let q = proper_now x m.0 in
            let e = eqb-true x.part p (and_parts _ _ m.1).0 in
            record { placed = q.placed; address = q.address; fits = codes_fit (slice_get ks x.part) x.code c q.fits (ap (λ n. fits_part ks n c) e ∙ f) }

        there : (w : Item) → w ∈ map (amended ks c) (standing now p l) → Stands ps w
        there w m =
            let i = back w m in
            let s = stands i.0 i.1.0 in
            (s.0, s.1, same_trans w i.0 s.0 (subst (λ v. Same v i.0) (sym i.2) (record { part = refl; place = refl; dot = refl })) s.2)

    pub deed_fits : (n : ℕ) (a : Action) → Read ks a → Coded ks a → deed_fault r n a now ≡ None → Fits ps ss (deed ks r a now)
    deed_fits n (set p l c) q f e = set_fits p l c n q f e
    deed_fits n (clear p l) q f e = clear_fits p l
    deed_fits n (amend p l c) q f e = amend_fits p l c f

    module _ (d : Deed) (f : Fits ps ss d) where
      new_apart : (x n : Item) → x ∈ allp → n.dot ≡ next_dot r now → x.dot ≡ n.dot → ⊥
      new_apart x n m e p =
          let q = p ∙ e in
          let a : x.dot.replica ≡ r = ap (λ (v : Dot). v.replica) q in
          let b : x.dot.counter ≡ highest r now.runs + 1 = ap (λ (v : Dot). v.counter) q in
          let c = k.own x m a in
          omega arith

      only : (n : Item) → d.puts ≡ n ∷ [] → (w : Item) → w ∈ d.puts → w ≡ n
      only n e w m = ⊎_elim (λ p. p) (λ i. absurd i) (subst (λ l. w ∈ l) e m)

      one_more : OnePlace (allp ++ d.puts)
      one_more x y m n = go f.sort (in_either x allp d.puts m) (in_either y allp d.puts n)
        where
          go : ((x : Item) → x ∈ d.puts → Stands ps x) ⊎ ((n : Item) × (d.puts ≡ n ∷ []) × (n.dot ≡ next_dot r now)) → (x ∈ allp) ⊎ (x ∈ d.puts) → (y ∈ allp) ⊎ (y ∈ d.puts) → x.dot ≡ y.dot → Same x y
          go s (inl a) (inl b) e = k.one x y a b e
          go (inl s) (inl a) (inr b) e = let j = s y b in same_trans x j.0 y (k.one x j.0 a (k.part j.0 j.1) (e ∙ j.2.dot)) (same_turned y j.0 j.2)
          go (inl s) (inr a) (inl b) e = let j = s x a in same_trans x j.0 y j.2 (k.one j.0 y (k.part j.0 j.1) b (sym j.2.dot ∙ e))
          go (inl s) (inr a) (inr b) e =
              let i = s x a in
              let j = s y b in
              same_trans x i.0 y i.2 (same_trans i.0 j.0 y (k.one i.0 j.0 (k.part i.0 i.1) (k.part j.0 j.1) (sym i.2.dot ∙ e ∙ j.2.dot)) (same_turned y j.0 j.2))
          go (inr s) (inl a) (inr b) e = absurd (new_apart x s.0 a s.2 (e ∙ ap (λ (v : Item). v.dot) (only s.0 s.1 y b)))
          go (inr s) (inr a) (inl b) e = absurd (new_apart y s.0 b s.2 (sym e ∙ ap (λ (v : Item). v.dot) (only s.0 s.1 x a)))
          go (inr s) (inr a) (inr b) e = subst (λ v. Same x v) (only s.0 s.1 x a ∙ sym (only s.0 s.1 y b)) (same_self x)

      good_more : Good ks (allp ++ d.puts)
      good_more x m = ⊎_elim (λ a. k.good x a) (λ a. f.good x a) (in_either x allp d.puts m)

      up : (w : Item) → w ∈ (ps ++ d.puts) → w ∈ (allp ++ d.puts)
      up w m = ⊎_elim (λ a. in_left w allp d.puts (k.part w a)) (λ a. in_right w allp d.puts a) (in_either w ps d.puts m)

      puts_dotted : Dotted (dots_of d.puts)
      puts_dotted = good_dotted ks d.puts f.good

      strikes_dotted : Dotted d.strikes
      strikes_dotted = all_from (λ e. is_dot e ≡ true) d.strikes f.struck

      pub next_book : joined ks now (group_of d) ≡ book_of ks (ps ++ d.puts) (ss ++ d.strikes)
      next_book = ap (joined ks now) f.group ∙ sym (book_both ks ps d.puts ss d.strikes ps_dotted puts_dotted ss_dotted strikes_dotted (λ x m. good_more x (up x m)) (λ x y m n. one_more x y (up x m) (up y n)))

      higher : (q : ℕ) → highest q (book_of ks (ps ++ d.puts) (ss ++ d.strikes)).runs ≡ max (highest q now.runs) (highest q (group_of d).runs)
      higher q =
          ap (λ (b : Group). highest q b.runs) (sym next_book)
          ∙ highest_union q now.runs (group_of d).runs (runs_canonical (dots_of ps ++ ss) (all_both (λ d. is_dot d ≡ true) (dots_of ps) ss ps_dotted ss_dotted)) (runs_canonical (dots_of d.puts ++ d.strikes) (all_both (λ d. is_dot d ≡ true) (dots_of d.puts) d.strikes puts_dotted strikes_dotted))

      own_more : (x : Item) → x ∈ (allp ++ d.puts) → x.dot.replica ≡ r → x.dot.counter ≤ highest r (book_of ks (ps ++ d.puts) (ss ++ d.strikes)).runs
      own_more x m e = go (in_either x allp d.puts m)
        where
          go : (x ∈ allp) ⊎ (x ∈ d.puts) → x.dot.counter ≤ highest r (book_of ks (ps ++ d.puts) (ss ++ d.strikes)).runs
          go (inl a) = let c = k.own x a e in let h = higher r in omega arith
          go (inr a) =
              let b : has (group_of d).runs x.dot ≡ true = book_has ks d.puts d.strikes puts_dotted strikes_dotted x.dot ∙ or_left _ _ (among_in (dots_of d.puts) x.dot (map_in (λ (v : Item). v.dot) d.puts x a)) in
              let c = below_highest x.dot.replica (group_of d).runs x.dot.counter b in
              let c' : x.dot.counter ≤ highest r (group_of d).runs = subst (λ q. x.dot.counter ≤ highest q (group_of d).runs) e c in
              let h = higher r in
              omega arith

      pub knowing_more : Knowing (ps ++ d.puts) (ss ++ d.strikes) (allp ++ d.puts)
      knowing_more = record {
        struck = λ e m. ⊎_elim (λ a. k.struck e a) (λ a. f.struck e a) (in_either e ss d.strikes m);
        part = up;
        one = one_more;
        good = good_more;
        narrow = λ x m. ⊎_elim (λ a. k.narrow x a) (λ a. f.narrow x a) (in_either x allp d.puts m);
        own = own_more;
      }

      -- each put's dot was put before, or is the author's
      pub put_origin : (x : Item) → x ∈ d.puts → ((y : Item) × (y ∈ ps) × (x.dot ≡ y.dot)) ⊎ (x.dot.replica ≡ r)
      put_origin x m = ⊎_elim (λ s. let j = s x m in inl (j.0, j.1, j.2.dot)) (λ s. inr (ap (λ (v : Item). v.dot.replica) (only s.0 s.1 x m) ∙ ap (λ (v : Dot). v.replica) s.2)) f.sort

  -- what the planned deeds come to
  pub record Done (ps : List Item) (ss : List Dot) (allp : List Item) (ds : List Deed) : Type 0 where
    pub knowing : Knowing (ps ++ puts_of ds) (ss ++ strikes_of ds) (allp ++ puts_of ds)
    pub struck : (e : Dot) → e ∈ strikes_of ds → is_dot e ≡ true
    pub groups : AllByRecursion (λ (d : Deed). group_of d ≡ book_of ks d.puts d.strikes) ds
    pub origin : (x : Item) → x ∈ puts_of ds → ((y : Item) × (y ∈ ps) × (x.dot ≡ y.dot)) ⊎ (x.dot.replica ≡ r)

  both_none : (o p : Option Refusal) → first_of o p ≡ None → (o ≡ None) × (p ≡ None)
  both_none None p e = (refl, e)
  both_none (Some f) p e = absurd (some_none e)

  pub planned_done : (acts : List Action) (n : ℕ) (ps : List Item) (ss : List Dot) (allp : List Item) → Knowing ps ss allp → AllByRecursion (Read ks) acts → AllByRecursion (Coded ks) acts → planned_fault z r n acts ps ss ≡ None → Done ps ss allp (planned z r acts ps ss)
  planned_done [] n ps ss allp k rs cs e = record { knowing = rw (nil_right ps, nil_right ss, nil_right allp) k; struck = λ e m. absurd m; groups = tt; origin = λ x m. absurd m }
  planned_done (a ∷ acts) n ps ss allp k rs cs e = go (λ f no. planned_done acts (suc n) (ps ++ d.puts) (ss ++ d.strikes) (allp ++ d.puts) (knowing_more ps ss allp k d f) rs.1 cs.1 no)
    where
      d : Deed
      d = deed ks r a (book_of ks ps ss)

      ds : List Deed
      ds = planned z r acts (ps ++ d.puts) (ss ++ d.strikes)

      no : (deed_fault r n a (book_of ks ps ss) ≡ None) × (planned_fault z r (suc n) acts (ps ++ d.puts) (ss ++ d.strikes) ≡ None)
      no = both_none (deed_fault r n a (book_of ks ps ss)) (planned_fault z r (suc n) acts (ps ++ d.puts) (ss ++ d.strikes)) e

      f : Fits ps ss d
      f = deed_fits ps ss allp k n a rs.0 cs.0 no.0

      earlier : (x : Item) → (y : Item) × (y ∈ (ps ++ d.puts)) × (x.dot ≡ y.dot) → ((y : Item) × (y ∈ ps) × (x.dot ≡ y.dot)) ⊎ (x.dot.replica ≡ r)
      earlier x t =
          ⊎_elim (λ b. inl (t.0, b, t.2))
          (λ b. ⊎_elim (λ o. inl (o.0, o.1, t.2 ∙ o.2)) (λ o. inr (ap (λ (v : Dot). v.replica) t.2 ∙ o)) (put_origin ps ss allp k d f t.0 b))
          (in_either t.0 ps d.puts t.1)

      go : (Fits ps ss d → planned_fault z r (suc n) acts (ps ++ d.puts) (ss ++ d.strikes) ≡ None → Done (ps ++ d.puts) (ss ++ d.strikes) (allp ++ d.puts) ds) → Done ps ss allp (d ∷ ds)
      go ih =
          let i = ih f no.1 in
          record {
            knowing = rw (append_assoc ps d.puts (puts_of ds), append_assoc ss d.strikes (strikes_of ds), append_assoc allp d.puts (puts_of ds)) at i.knowing;
            struck = λ v m. ⊎_elim (λ t. f.struck v t) (λ t. i.struck v t) (in_either v d.strikes (strikes_of ds) m);
            groups = (f.group, i.groups);
            origin = λ x m. ⊎_elim (λ a. put_origin ps ss allp k d f x a) (λ a. ⊎_elim (earlier x) (λ b. inr b) (i.origin x a)) (in_either x d.puts (puts_of ds) m);
          }

  -- the book as earlier actions left it is that of all put and struck before
  pub fault_same : (acts : List Action) (n : ℕ) (ps : List Item) (ss : List Dot) (allp : List Item) → Knowing ps ss allp → AllByRecursion (Read ks) acts → AllByRecursion (Coded ks) acts → deeds_fault ks r n acts (book_of ks ps ss) ≡ planned_fault z r n acts ps ss
  fault_same [] n ps ss allp k rs cs = refl
  fault_same (a ∷ acts) n ps ss allp k rs cs = go (deed_fault r n a (book_of ks ps ss)) refl (λ f. fault_same acts (suc n) (ps ++ d.puts) (ss ++ d.strikes) (allp ++ d.puts) (knowing_more ps ss allp k d f) rs.1 cs.1)
    where
      d : Deed
      d = deed ks r a (book_of ks ps ss)

      go : (o : Option Refusal) → deed_fault r n a (book_of ks ps ss) ≡ o → (Fits ps ss d → deeds_fault ks r (suc n) acts (book_of ks (ps ++ d.puts) (ss ++ d.strikes)) ≡ planned_fault z r (suc n) acts (ps ++ d.puts) (ss ++ d.strikes))
          → first_of o (deeds_fault ks r (suc n) acts (joined ks (book_of ks ps ss) (group_of d))) ≡ first_of o (planned_fault z r (suc n) acts (ps ++ d.puts) (ss ++ d.strikes))
      go (Some g) e ih = refl
      go None e ih = let f = deed_fits ps ss allp k n a rs.0 cs.0 e in ap (deeds_fault ks r (suc n) acts) (next_book ps ss allp k d f) ∙ ih f

  pub deeds_same : (acts : List Action) (n : ℕ) (ps : List Item) (ss : List Dot) (allp : List Item) → Knowing ps ss allp → AllByRecursion (Read ks) acts → AllByRecursion (Coded ks) acts → planned_fault z r n acts ps ss ≡ None → deeds ks r acts (book_of ks ps ss) ≡ planned z r acts ps ss
  deeds_same [] n ps ss allp k rs cs e = refl
  deeds_same (a ∷ acts) n ps ss allp k rs cs e =
      let d : Deed = deed ks r a (book_of ks ps ss) in
      let no = both_none (deed_fault r n a (book_of ks ps ss)) (planned_fault z r (suc n) acts (ps ++ d.puts) (ss ++ d.strikes)) e in
      let f : Fits ps ss d = deed_fits ps ss allp k n a rs.0 cs.0 no.0 in
      ap (λ l. d ∷ l) (ap (deeds ks r acts) (next_book ps ss allp k d f) ∙ deeds_same acts (suc n) (ps ++ d.puts) (ss ++ d.strikes) (allp ++ d.puts) (knowing_more ps ss allp k d f) rs.1 cs.1 no.1)

  -- the groups of the deeds, joined, are the book of all that they put and strike
  module _ (caps : List ℕ) where
    pub joins_deeds : (ds : List Deed) (ps : List Item) (ss : List Dot) → AllByRecursion (λ (d : Deed). group_of d ≡ book_of ks d.puts d.strikes) ds → Dotted ss → Dotted (strikes_of ds) → Good ks (ps ++ puts_of ds) → OnePlace (ps ++ puts_of ds)
        → (fold (joined ks) (book_of ks ps ss) (map group_of ds) ≡ book_of ks (ps ++ puts_of ds) (ss ++ strikes_of ds)) × (joinings_fault ks caps (book_of ks ps ss) (map group_of ds) ≡ doing_fault z caps ps ss ds)
    joins_deeds [] ps ss gs sp sd good one = (ap₂ (book_of ks) (sym (nil_right ps)) (sym (nil_right ss)), refl)
    joins_deeds (d ∷ es) ps ss gs sp sd good one =
        let s = all_left (λ e. is_dot e ≡ true) d.strikes (strikes_of es) sd in
        let t = all_right (λ e. is_dot e ≡ true) d.strikes (strikes_of es) sd in
        let more : OnePlace ((ps ++ d.puts) ++ puts_of es) = subst OnePlace (sym (append_assoc ps d.puts (puts_of es))) one in
        let gmore : Good ks ((ps ++ d.puts) ++ puts_of es) = subst (Good ks) (sym (append_assoc ps d.puts (puts_of es))) good in
        let ghere : Good ks (ps ++ d.puts) = λ x m. gmore x (in_left x (ps ++ d.puts) (puts_of es) m) in
        let here : OnePlace (ps ++ d.puts) = λ x y m n. more x y (in_left x (ps ++ d.puts) (puts_of es) m) (in_left y (ps ++ d.puts) (puts_of es) n) in
        let gp : Dotted (dots_of ps) = good_dotted ks ps (λ x m. ghere x (in_left x ps d.puts m)) in
        let gd : Dotted (dots_of d.puts) = good_dotted ks d.puts (λ x m. ghere x (in_right x ps d.puts m)) in
        let step : joined ks (book_of ks ps ss) (group_of d) ≡ book_of ks (ps ++ d.puts) (ss ++ d.strikes) = ap (joined ks (book_of ks ps ss)) gs.0 ∙ sym (book_both ks ps d.puts ss d.strikes gp gd sp s ghere here) in
        let i = joins_deeds es (ps ++ d.puts) (ss ++ d.strikes) gs.1 (all_both (λ e. is_dot e ≡ true) ss d.strikes sp s) t gmore more in (
          ap (λ v. fold (joined ks) v (map group_of es)) step ∙ i.0 ∙ ap₂ (book_of ks) (append_assoc ps d.puts (puts_of es)) (append_assoc ss d.strikes (strikes_of es)),
          ap (λ v. first_of (joining_fault ks caps v) (joinings_fault ks caps v (map group_of es))) step ∙ ap (first_of (joining_fault ks caps (book_of ks (ps ++ d.puts) (ss ++ d.strikes)))) i.1,
        )
