-- An entry stands in a book exactly where it lives by the edits seen.
use Rattle.std.proofs.Common.{◌≡◌, ℕ, Bool, true, false, cond, ◌||◌, List, [], ◌∷◌, Some, None, Option, sym, refl, ap, ◌∙◌, subst, ap₂, inl, inr, ⊎_elim}
use Rattle.std.proofs.lemmas.Bool.{both_ways, cases_Bool, or_cases, or_left, or_right}
use Rattle.std.specs.List.{slice_get}
use Rattle.causal.specs.declared.dots.Dot.{Dot}
use Rattle.causal.specs.Dots.{same_dot}
use Rattle.kinds.specs.Kinds.{ValueKind}
use Rattle.causal.specs.Runs.{has}
use Rattle.stores.specs.Items.{Item}
use Rattle.groups.specs.Groups.{join_codes}
use Rattle.stores.proofs.ItemOrder.{dot_equal}
use Rattle.stores.proofs.Stays.{some_none}
use Rattle.stores.proofs.Lookups.{some_same}
use Rattle.reading.specs.Reading.{among, dots_of}
use Rattle.history.specs.Sets.{◌∈◌}
use Rattle.history.specs.Books.{over}
use Rattle.history.specs.Worlds.{Setting}
use Rattle.history.specs.History.{Edits, put_by, struck_by, book}
use Rattle.history.specs.Law.{codes_at, all_joined, Lives, Touched}
use Rattle.history.proofs.Members.{in_map, map_in, among_in, in_among}
use Rattle.history.proofs.Books.{same_trans, OnePlace, settled, settled_from, PutKnown, put_known, book_find, book_from, book_has}
use Rattle.history.proofs.Histories.{Part, Sane, puts_in, in_puts, strikes_in, in_strikes, all_puts, all_strikes, part_one, book_formed}
use Rattle.history.proofs.Deeds.{find_in, in_find}

-- what items put come to has the join of their codes
pub record CodesAre (ks : List ValueKind) (ps : List Item) (d : Dot) (x : Item) : Type 0 where
  pub first : ℕ
  pub rest : List ℕ
  pub codes : codes_at d ps ≡ first ∷ rest
  pub joined : x.code ≡ all_joined (slice_get ks x.part) (codes_at d ps)

no_codes : (ks : List ValueKind) (ps : List Item) (d : Dot) → settled ks ps d ≡ None → codes_at d ps ≡ []
no_codes ks [] d e = refl
no_codes ks (y ∷ ps) d e = go (same_dot y.dot d) refl e (no_codes ks ps d)
  where
    go : (b : Bool) → same_dot y.dot d ≡ b → cond b (Some (over ks y (settled ks ps d))) (settled ks ps d) ≡ None → (settled ks ps d ≡ None → codes_at d ps ≡ []) → codes_at d (y ∷ ps) ≡ []
    go true s e i = absurd (some_none e)
    go false s e i = rw s (i e)

pub settled_codes : (ks : List ValueKind) (ps : List Item) (d : Dot) (x : Item) → OnePlace ps → settled ks ps d ≡ Some x → CodesAre ks ps d x
settled_codes ks [] d x one e = absurd (some_none (sym e))
settled_codes ks (y ∷ ps) d x one e = go (same_dot y.dot d) refl e (λ w. settled_codes ks ps d w (λ u v m n. one u v (inr m) (inr n)))
  where
    here : (s : same_dot y.dot d ≡ true) (w : Item) → settled ks ps d ≡ Some w → w.part ≡ y.part
    here s w q = let a = settled_from ks ps d w q in a.2.part ∙ (one a.0 y (inr a.1) (inl refl) (a.3 ∙ sym (dot_equal y.dot d s))).part

    codes_here : same_dot y.dot d ≡ true → codes_at d (y ∷ ps) ≡ y.code ∷ codes_at d ps
    codes_here s = rw s

    over_codes : same_dot y.dot d ≡ true → (o : Option Item) → settled ks ps d ≡ o → ((w : Item) → settled ks ps d ≡ Some w → CodesAre ks ps d w) → (over ks y o).code ≡ all_joined (slice_get ks y.part) (y.code ∷ codes_at d ps)
    over_codes s None q ih = sym (ap (λ cs. all_joined (slice_get ks y.part) (y.code ∷ cs)) (no_codes ks ps d q))
    over_codes s (Some w) q ih =
        let i = ih w q in
        ap (join_codes (slice_get ks y.part) y.code) (i.joined ∙ ap₂ (λ p cs. all_joined (slice_get ks p) cs) (here s w q) i.codes)
        ∙ sym (ap (λ cs. all_joined (slice_get ks y.part) (y.code ∷ cs)) i.codes)

    part_over : (o : Option Item) → (over ks y o).part ≡ y.part
    part_over None = refl
    part_over (Some w) = refl

    go : (b : Bool) → same_dot y.dot d ≡ b → cond b (Some (over ks y (settled ks ps d))) (settled ks ps d) ≡ Some x → ((w : Item) → settled ks ps d ≡ Some w → CodesAre ks ps d w) → CodesAre ks (y ∷ ps) d x
    go true s e ih = subst (CodesAre ks (y ∷ ps) d) (some_same _ x e) (record {
      first = y.code;
      rest = codes_at d ps;
      codes = codes_here s;
      joined = over_codes s (settled ks ps d) refl ih ∙ ap₂ (λ p cs. all_joined (slice_get ks p) cs) (sym (part_over (settled ks ps d))) (sym (codes_here s));
    })
    go false s e ih = let i = ih x e in let c : codes_at d (y ∷ ps) ≡ codes_at d ps = rw s in record { first = i.first; rest = i.rest; codes = c ∙ i.codes; joined = i.joined ∙ sym (ap (all_joined (slice_get ks x.part)) c) }

module _ (z : Setting) (all : Edits) (sane : Sane z.kinds all) (es : Edits) (part : Part es all) where
  abbrev ps : List Item
  ps = put_by es

  abbrev ss : List Dot
  ss = struck_by es

  pub entry_lives : (x : Item) → x ∈ (book z es).items → Lives z.kinds es x
  entry_lives x m =
      let f = book_from z.kinds ps ss x.dot x (in_find (book z es).items x (book_formed z all sane es part).apart m) in
      let g = settled_from z.kinds ps x.dot x f.1 in
      let h = in_puts es g.0 g.1 in
      record {
        put = (h.0, h.1, (g.0, h.2, sym g.2.part, sym g.2.place, sym g.2.dot));
        never_struck = λ e i k. both_ways (among x.dot ss) f.0 (among_in ss x.dot (strikes_in es e x.dot i k));
        code_joined = (settled_codes z.kinds ps x.dot x (part_one z all sane es part) f.1).joined;
      }

  pub living_stands : (x : Item) → Lives z.kinds es x → x ∈ (book z es).items
  living_stands x l = go (put_known z.kinds ps x.dot)
    where
      y : Item
      y = l.put.2.0

      y_put : y ∈ ps
      y_put = puts_in es l.put.0 y l.put.1 l.put.2.1

      unstruck : among x.dot ss ≡ false
      unstruck = ⊎_elim (λ t. let k = in_strikes es x.dot (in_among ss x.dot t) in absurd (l.never_struck k.0 k.1 k.2)) (λ t. t) (cases_Bool (among x.dot ss))

      put_there : among x.dot (dots_of ps) ≡ true
      put_there = among_in (dots_of ps) x.dot (subst (λ d. d ∈ dots_of ps) l.put.2.4 (map_in (λ (v : Item). v.dot) ps y y_put))

      same : (w : Item) → settled z.kinds ps x.dot ≡ Some w → w ≡ x
      same w e =
          let g = settled_from z.kinds ps x.dot w e in
          let s = same_trans w g.0 y g.2 (part_one z all sane es part g.0 y g.1 y_put (g.3 ∙ sym l.put.2.4)) in
          let p : w.part ≡ x.part = s.part ∙ l.put.2.2 in
          let c : w.code ≡ x.code = (settled_codes z.kinds ps x.dot w (part_one z all sane es part) e).joined ∙ ap (λ n. all_joined (slice_get z.kinds n) (codes_at x.dot ps)) p ∙ sym l.code_joined in
          λ i. record { part = p i; place = (s.place ∙ l.put.2.3) i; dot = (s.dot ∙ l.put.2.4) i; code = c i }

      go : PutKnown z.kinds (settled z.kinds ps x.dot) (among x.dot (dots_of ps)) → x ∈ (book z es).items
      go (inl h) = absurd (both_ways (among x.dot (dots_of ps)) h.1 put_there)
      go (inr h) = find_in (book z es).items x.dot x (book_find z.kinds ps ss x.dot ∙ ap (λ b. cond b None (settled z.kinds ps x.dot)) unstruck ∙ h.1 ∙ ap (λ v. Some v) (same h.0 h.1))

  known_is : (d : Dot) → has (book z es).runs d ≡ (among d (dots_of ps) || among d ss)
  known_is d = book_has z.kinds ps ss (all_puts z all sane es part) (all_strikes z all sane es part) d

  pub known_touched : (d : Dot) → has (book z es).runs d ≡ true → Touched es d
  known_touched d e = ⊎_elim
      (λ a. let i = in_map (λ (v : Item). v.dot) ps d (in_among (dots_of ps) d a) in let h = in_puts es i.0 i.1 in (h.0, h.1, inl (subst (λ t. t ∈ dots_of h.0.puts) (sym i.2) (map_in (λ (v : Item). v.dot) h.0.puts i.0 h.2))))
      (λ a. let h = in_strikes es d (in_among ss d a) in (h.0, h.1, inr h.2))
      (or_cases (among d (dots_of ps)) (among d ss) (sym (known_is d) ∙ e))

  pub touched_known : (d : Dot) → Touched es d → has (book z es).runs d ≡ true
  touched_known d t = known_is d ∙ ⊎_elim
      (λ a. let i = in_map (λ (v : Item). v.dot) t.0.puts d a in or_left _ _ (among_in (dots_of ps) d (subst (λ v. v ∈ dots_of ps) (sym i.2) (map_in (λ (v : Item). v.dot) ps i.0 (puts_in es t.0 i.0 t.1 i.1)))))
      (λ a. or_right _ _ (among_in ss d (strikes_in es t.0 d t.1 a))) t.2
