-- Sets of edits and their books.
use Rattle.std.proofs.Common.{◌≡◌, ℕ, true, ◌⊎◌, List, [], ◌∷◌, ◌++◌, map, Some, fold, sym, refl, ap, ◌∙◌, subst, ap₂, inl, inr, ⊎_elim, append_assoc, arith}
use Rattle.std.specs.List.{AllByRecursion}
use Rattle.std.proofs.lemmas.Bool.{and_parts}
use Rattle.causal.specs.declared.dots.Dot.{Dot}
use Rattle.causal.specs.declared.places.Place.{Place}
use Rattle.causal.specs.Dots.{is_dot}
use Rattle.kinds.specs.Kinds.{ValueKind}
use Rattle.stores.specs.Items.{Item, find}
use Rattle.stores.specs.Puts.{first_of}
use Rattle.stores.specs.Sound.{Proper}
use Rattle.groups.specs.Groups.{Group, Formed, joined, Level}
use Rattle.groups.proofs.Keeps.{all_found}
use Rattle.groups.proofs.Converges.{joined_idem, joined_comm}
use Rattle.reading.specs.Reading.{dots_of}
use Rattle.records.specs.Written.{Narrow}
use Rattle.groups.specs.Limits.{joining_fault}
use Rattle.calls.specs.Edits.{joinings_fault}
use Rattle.history.specs.Sets.{◌∈◌}
use Rattle.history.specs.Books.{book_of}
use Rattle.history.specs.Worlds.{Setting}
use Rattle.history.specs.History.{Edit, Edits, put_by, struck_by, all_of, book, uniting_fault}
use Rattle.history.proofs.Members.{in_left, in_right, in_either, nil_right, all_from, in_map}
use Rattle.history.proofs.Books.{Dotted, Same, OnePlace, Good, settled_from, settled_same, book_from, formed_book, book_both}

abbrev pub Part : Edits → Edits → Type 0
Part es fs = (e : Edit) → e ∈ es → e ∈ fs

pub proper_dot : (ks : List ValueKind) (x : Item) → Proper ks x → is_dot x.dot ≡ true
proper_dot ks x p = (and_parts _ _ p.address).1

pub good_dotted : (ks : List ValueKind) (ps : List Item) → Good ks ps → Dotted (dots_of ps)
good_dotted ks ps g = all_from (λ d. is_dot d ≡ true) (dots_of ps) (λ d m. let i = in_map (λ x. x.dot) ps d m in ap is_dot i.2 ∙ proper_dot ks i.0 (g i.0 i.1))

-- of all edits that were made: their items are proper and fit their bytes, no dot is put at two places, and the struck dots are dots
pub record Sane (ks : List ValueKind) (all : Edits) : Type 0 where
  pub good : Good ks (put_by all)
  pub one : OnePlace (put_by all)
  pub struck : (d : Dot) → d ∈ struck_by all → is_dot d ≡ true
  pub narrow : (x : Item) → x ∈ put_by all → Narrow x

pub put_by_append : (es fs : Edits) → put_by (es ++ fs) ≡ put_by es ++ put_by fs
put_by_append [] fs = refl
put_by_append (e ∷ es) fs = ap (λ l. e.puts ++ l) (put_by_append es fs) ∙ sym (append_assoc e.puts (put_by es) (put_by fs))

pub struck_by_append : (es fs : Edits) → struck_by (es ++ fs) ≡ struck_by es ++ struck_by fs
struck_by_append [] fs = refl
struck_by_append (e ∷ es) fs = ap (λ l. e.strikes ++ l) (struck_by_append es fs) ∙ sym (append_assoc e.strikes (struck_by es) (struck_by fs))

pub puts_in : (es : Edits) (e : Edit) (x : Item) → e ∈ es → x ∈ e.puts → x ∈ put_by es
puts_in [] e x m n = absurd m
puts_in (f ∷ es) e x (inl p) n = in_left x f.puts (put_by es) (subst (λ (v : Edit). x ∈ v.puts) p n)
puts_in (f ∷ es) e x (inr m) n = in_right x f.puts (put_by es) (puts_in es e x m n)

pub in_puts : (es : Edits) (x : Item) → x ∈ put_by es → (e : Edit) × (e ∈ es) × (x ∈ e.puts)
in_puts [] x m = absurd m
in_puts (f ∷ es) x m = go (in_either x f.puts (put_by es) m) (in_puts es x)
  where
    go : (x ∈ f.puts) ⊎ (x ∈ put_by es) → (x ∈ put_by es → (e : Edit) × (e ∈ es) × (x ∈ e.puts)) → (e : Edit) × (e ∈ (f ∷ es)) × (x ∈ e.puts)
    go (inl n) i = (f, inl refl, n)
    go (inr n) i = let j = i n in (j.0, inr j.1, j.2)

pub strikes_in : (es : Edits) (e : Edit) (d : Dot) → e ∈ es → d ∈ e.strikes → d ∈ struck_by es
strikes_in [] e d m n = absurd m
strikes_in (f ∷ es) e d (inl p) n = in_left d f.strikes (struck_by es) (subst (λ (v : Edit). d ∈ v.strikes) p n)
strikes_in (f ∷ es) e d (inr m) n = in_right d f.strikes (struck_by es) (strikes_in es e d m n)

pub in_strikes : (es : Edits) (d : Dot) → d ∈ struck_by es → (e : Edit) × (e ∈ es) × (d ∈ e.strikes)
in_strikes [] d m = absurd m
in_strikes (f ∷ es) d m = go (in_either d f.strikes (struck_by es) m) (in_strikes es d)
  where
    go : (d ∈ f.strikes) ⊎ (d ∈ struck_by es) → (d ∈ struck_by es → (e : Edit) × (e ∈ es) × (d ∈ e.strikes)) → (e : Edit) × (e ∈ (f ∷ es)) × (d ∈ e.strikes)
    go (inl n) i = (f, inl refl, n)
    go (inr n) i = let j = i n in (j.0, inr j.1, j.2)

pub part_puts : (es fs : Edits) → Part es fs → (x : Item) → x ∈ put_by es → x ∈ put_by fs
part_puts es fs h x m = let j = in_puts es x m in puts_in fs j.0 x (h j.0 j.1) j.2

pub part_strikes : (es fs : Edits) → Part es fs → (d : Dot) → d ∈ struck_by es → d ∈ struck_by fs
part_strikes es fs h d m = let j = in_strikes es d m in strikes_in fs j.0 d (h j.0 j.1) j.2

pub part_append : (es fs gs : Edits) → Part es gs → Part fs gs → Part (es ++ fs) gs
part_append es fs gs p q e m = ⊎_elim (λ n. p e n) (λ n. q e n) (in_either e es fs m)

module _ (z : Setting) (all : Edits) (sane : Sane z.kinds all) where
  pub all_good : (es : Edits) → Part es all → Good z.kinds (put_by es)
  all_good es p x m = sane.good x (part_puts es all p x m)

  pub all_puts : (es : Edits) → Part es all → Dotted (dots_of (put_by es))
  all_puts es p = good_dotted z.kinds (put_by es) (all_good es p)

  pub all_strikes : (es : Edits) → Part es all → Dotted (struck_by es)
  all_strikes es p = all_from (λ d. is_dot d ≡ true) (struck_by es) (λ d m. sane.struck d (part_strikes es all p d m))

  pub part_one : (es : Edits) → Part es all → OnePlace (put_by es)
  part_one es p x y m n = sane.one x y (part_puts es all p x m) (part_puts es all p y n)

  pub book_formed : (es : Edits) → Part es all → Formed z.kinds (book z es)
  book_formed es p = formed_book z.kinds (put_by es) (struck_by es) (all_puts es p) (all_strikes es p) (all_good es p) (part_one es p)

  pub book_narrow : (es : Edits) → Part es all → AllByRecursion Narrow (book z es).items
  book_narrow es p = all_found Narrow (book z es).items (book_formed es p).apart each
    where
      same_narrow : (x y : Item) → Same x y → Narrow y → Narrow x
      same_narrow x y s n =
          let a = s.part in
          let b = ap (λ (l : Place). l.first) s.place in
          let c = ap (λ (l : Place). l.second) s.place in
          let d = ap (λ (l : Place). l.third) s.place in
          let e = ap (λ (l : Place). l.fourth) s.place in
          record { part = omega arith; first = omega arith; second = omega arith; third = omega arith; fourth = omega arith }

      each : (d : Dot) (x : Item) → find d (book z es).items ≡ Some x → Narrow x
      each d x e = let f = settled_from z.kinds (put_by es) d x (book_from z.kinds (put_by es) (struck_by es) d x e).1 in same_narrow x f.0 f.2 (sane.narrow f.0 (part_puts es all p f.0 f.1))

  pub book_union : (es fs : Edits) → Part es all → Part fs all → book z (es ++ fs) ≡ joined z.kinds (book z es) (book z fs)
  book_union es fs p q =
      ap₂ (book_of z.kinds) (put_by_append es fs) (struck_by_append es fs)
      ∙ book_both z.kinds (put_by es) (put_by fs) (struck_by es) (struck_by fs) (all_puts es p) (all_puts fs q) (all_strikes es p) (all_strikes fs q)
      (λ x m. sane.good x (within x m)) (λ x y m n. sane.one x y (within x m) (within y n))
    where
      within : (x : Item) → x ∈ (put_by es ++ put_by fs) → x ∈ put_by all
      within x m = ⊎_elim (λ n. part_puts es all p x n) (λ n. part_puts fs all q x n) (in_either x (put_by es) (put_by fs) m)

  -- the books of several sets, joined in order, and the faults at those joinings
  pub joins_book : (s : Edits) (ts : List Edits) → Part s all → ((t : Edits) → t ∈ ts → Part t all) → fold (joined z.kinds) (book z s) (map (book z) ts) ≡ book z (s ++ all_of ts)
  joins_book s [] p h = ap (book z) (sym (nil_right s))
  joins_book s (t ∷ ts) p h =
      ap (λ b. fold (joined z.kinds) b (map (book z) ts)) (sym (book_union s t p (h t (inl refl))))
      ∙ joins_book (s ++ t) ts (part_append s t all p (h t (inl refl))) (λ u m. h u (inr m))
      ∙ ap (book z) (append_assoc s t (all_of ts))

  pub joinings_book : (caps : List ℕ) (s : Edits) (ts : List Edits) → Part s all → ((t : Edits) → t ∈ ts → Part t all) → joinings_fault z.kinds caps (book z s) (map (book z) ts) ≡ uniting_fault z caps s ts
  joinings_book caps s [] p h = refl
  joinings_book caps s (t ∷ ts) p h =
      ap (λ b. first_of (joining_fault z.kinds caps b) (joinings_fault z.kinds caps b (map (book z) ts))) (sym (book_union s t p (h t (inl refl))))
      ∙ ap (first_of (joining_fault z.kinds caps (book z (s ++ t)))) (joinings_book caps (s ++ t) ts (part_append s t all p (h t (inl refl))) (λ u m. h u (inr m)))

  pub level : (es fs : Edits) → Part es all → Part fs all → Level (book z es) (book z fs)
  level es fs p q d x y e f =
      let s = settled_same z.kinds (put_by es) (put_by fs) d (λ v w m n. sane.one v w (within v m) (within w n)) x y (book_from z.kinds (put_by es) (struck_by es) d x e).1 (book_from z.kinds (put_by fs) (struck_by fs) d y f).1 in
      (s.part, s.place)
    where
      within : (x : Item) → x ∈ (put_by es ++ put_by fs) → x ∈ put_by all
      within x m = ⊎_elim (λ n. part_puts es all p x n) (λ n. part_puts fs all q x n) (in_either x (put_by es) (put_by fs) m)

  abbrev ◌⊔◌ : Group → Group → Group
  ◌⊔◌ = joined z.kinds

  idem : (es : Edits) → Part es all → ◌⊔◌ (book z es) (book z es) ≡ book z es
  idem es p = joined_idem z.kinds (book z es) (book_formed es p)

  comm : (es fs : Edits) → Part es all → Part fs all → ◌⊔◌ (book z es) (book z fs) ≡ ◌⊔◌ (book z fs) (book z es)
  comm es fs p q = joined_comm z.kinds (book z es) (book z fs) (book_formed es p) (book_formed fs q) (level es fs p q)

  -- an edit that is in a set adds nothing to its book
  absorb_one : (e : Edit) (fs : Edits) → e ∈ fs → Part fs all → book z (fs ++ e ∷ []) ≡ book z fs
  absorb_one e [] m p = absurd m
  absorb_one e (f ∷ gs) (inl q) p =
      let pf : Part (f ∷ []) all = λ g n. ⊎_elim (λ a. p g (inl a)) (λ a. absurd a) n in
      let pg : Part gs all = λ g n. p g (inr n) in
      let A = f ∷ [] in
      ap (λ t. book z (f ∷ gs ++ t ∷ [])) q
      ∙ book_union A (gs ++ A) pf (part_append gs A all pg pf)
      ∙ ap (◌⊔◌ (book z A)) (book_union gs A pg pf ∙ comm gs A pg pf ∙ sym (book_union A gs pf pg))
      ∙ sym (book_union A (A ++ gs) pf (part_append A gs all pf pg))
      ∙ book_union (A ++ A) gs (part_append A A all pf pf) pg
      ∙ ap (λ b. ◌⊔◌ b (book z gs)) (book_union A A pf pf ∙ idem A pf)
      ∙ sym (book_union A gs pf pg)
  absorb_one e (f ∷ gs) (inr m) p =
      let pf : Part (f ∷ []) all = λ g n. ⊎_elim (λ a. p g (inl a)) (λ a. absurd a) n in
      let pg : Part gs all = λ g n. p g (inr n) in
      let pe : Part (e ∷ []) all = λ g n. ⊎_elim (λ a. subst (λ t. t ∈ all) (sym a) (p e (inr m))) (λ a. absurd a) n in
      book_union (f ∷ []) (gs ++ e ∷ []) pf (part_append gs (e ∷ []) all pg pe)
      ∙ ap (◌⊔◌ (book z (f ∷ []))) (absorb_one e gs m pg)
      ∙ sym (book_union (f ∷ []) gs pf pg)

  absorb : (es fs : Edits) → Part es fs → Part fs all → book z (fs ++ es) ≡ book z fs
  absorb [] fs h p = ap (book z) (nil_right fs)
  absorb (e ∷ es) fs h p =
      let pe : Part (e ∷ []) all = λ g n. ⊎_elim (λ a. p g (h g (inl a))) (λ a. absurd a) n in
      let ps : Part es all = λ g n. p g (h g (inr n)) in
      ap (book z) (sym (append_assoc fs (e ∷ []) es))
      ∙ book_union (fs ++ e ∷ []) es (part_append fs (e ∷ []) all p pe) ps
      ∙ ap (λ b. ◌⊔◌ b (book z es)) (absorb_one e fs (h e (inl refl)) p)
      ∙ sym (book_union fs es p ps)
      ∙ absorb es fs (λ g n. h g (inr n)) p

  -- sets with the same edits have one book
  pub same_book : (es fs : Edits) → Part es fs → Part fs es → Part fs all → book z es ≡ book z fs
  same_book es fs h k p =
      let q : Part es all = λ e m. p e (h e m) in
      sym (absorb fs es k q) ∙ book_union es fs q p ∙ comm es fs q p ∙ sym (book_union fs es p q) ∙ absorb es fs h p
