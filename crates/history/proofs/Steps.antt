-- Each call keeps what holds of the machine, and the replicas follow it.
use Rattle.std.proofs.Common.{◌≡◌, ℕ, ◌-◌, ◌<◌, ◌≤◌, max, Bool, true, false, ◌||◌, ltb, leb, List, [], ◌∷◌, ◌++◌, map, length, drop, Some, None, Option, sym, refl, ap, ◌∙◌, subst, inl, inr, ⊎_elim, append_assoc, arith}
use Rattle.std.proofs.lemmas.List.{drop-drop, length-set}
use Rattle.std.proofs.lemmas.Bool.{ltb-false, leb-false, or_parts, cases_eq}
use Rattle.std.specs.List.{slice_get, remove}
use Rattle.refusals.specs.declared.Refusal.{Refusal}
use Rattle.shelves.specs.Parcels.{append_refusal}
use Rattle.causal.specs.declared.dots.Dot.{Dot}
use Rattle.causal.specs.declared.places.Place.{Place}
use Rattle.causal.specs.Dots.{is_replica}
use Rattle.kinds.specs.Kinds.{ValueKind}
use Rattle.causal.specs.Runs.{highest}
use Rattle.contexts.specs.Contexts.{most_runs, too_many}
use Rattle.causal.proofs.RunFacts.{canonical_from}
use Rattle.causal.proofs.RunHighest.{highest_union}
use Rattle.stores.specs.Items.{Item}
use Rattle.stores.specs.Puts.{first_of}
use Rattle.groups.specs.Groups.{Group}
use Rattle.stores.proofs.Stays.{some_none}
use Rattle.groups.specs.Limits.{too_many_runs, joining_fault, book_fault}
use Rattle.refusals.specs.Table.{refuse_if}
use Rattle.records.specs.Written.{short_fault, in_front}
use Rattle.calls.specs.Faults.{not_kept, used_up}
use Rattle.calls.specs.Holdings.{Work, heard_of, hearing, wrote, accepted, Turn, turn, refuse, unless}
use Rattle.calls.specs.Steps.{step_fault, origin, last_step}
use Rattle.calls.specs.Actions.{Deed}
use Rattle.calls.specs.Arrivals.{room_fault}
use Rattle.calls.specs.Reads.{shown_at}
use Rattle.history.specs.Sets.{◌∈◌}
use Rattle.history.specs.Books.{book_of}
use Rattle.history.specs.Worlds.{Number, Setting, changed}
use Rattle.history.specs.History.{Edits, put_by, puts_of, strikes_of, all_of, Past, Letter, grown, book, letter_bytes, doing_fault, uniting_fault, posts, collects, ships, ships_whole, loses, repeats, forgets, reads, Machine, on_past, on_post}
use Rattle.history.proofs.Members.{in_left, in_right, in_either, nil_right, in_removed, in_nth}
use Rattle.history.proofs.Histories.{Part, book_union, book_formed}
use Rattle.history.proofs.Invariants.{Closed, names_part, seen_at, seen_more, seen_end, seen_halves, seen_part, hearing_here, hearing_there, LetterOk, Inv, inv_same, inv_post, inv_grown, inv_forgot}

pub unless_both : {A : Type 0} (o : Option Refusal) (g : Refusal → A) (x : A) (P : A → Type 0) → ((e : Refusal) → P (g e)) → (o ≡ None → P x) → P (unless o g x)
unless_both None g x P h k = k refl
unless_both (Some e) g x P h k = h e

pub none_of : (a b : Option Refusal) → first_of a b ≡ None → (a ≡ None) × (b ≡ None)
none_of None b e = (refl, e)
none_of (Some f) b e = absurd (some_none e)

pub not_refused : (b : Bool) (f : Refusal) → refuse_if b f ≡ None → b ≡ false
not_refused true f e = absurd (some_none e)
not_refused false f e = refl

-- what a limit that was not passed says

few_runs : (g : Group) (w : ℕ) → refuse_if (too_many g.runs) (too_many_runs w) ≡ None → length g.runs ≤ most_runs
few_runs g w e = ltb-false most_runs (length g.runs) (not_refused (too_many g.runs) (too_many_runs w) e)

joining_few : (ks : List ValueKind) (caps : List ℕ) (g : Group) → joining_fault ks caps g ≡ None → length g.runs ≤ most_runs
joining_few ks caps g e = few_runs g 0 (none_of _ _ e).1

pub book_few : (ks : List ValueKind) (caps : List ℕ) (g : Group) → book_fault ks caps g ≡ None → length g.runs ≤ most_runs
book_few ks caps g e = few_runs g 1 (none_of _ _ e).1

pub step_room : (s n : ℕ) → step_fault s n ≡ None → s < last_step
step_room s n e = leb-false last_step s (not_refused (leb last_step s) (used_up n) e)

module _ (z : Setting) where
  uniting_few : (caps : List ℕ) (s : Edits) (ts : List Edits) → uniting_fault z caps s ts ≡ None → length (book z s).runs ≤ most_runs → length (book z (s ++ all_of ts)).runs ≤ most_runs
  uniting_few caps s [] e h = subst (λ (es : Edits). length (book z es).runs ≤ most_runs) (sym (nil_right s)) h
  uniting_few caps s (t ∷ ts) e h =
      let n = none_of (joining_fault z.kinds caps (book z (s ++ t))) (uniting_fault z caps (s ++ t) ts) e in
      subst (λ (es : Edits). length (book z es).runs ≤ most_runs) (append_assoc s t (all_of ts)) (uniting_few caps (s ++ t) ts n.1 (joining_few z.kinds caps (book z (s ++ t)) n.0))

  pub doing_few : (caps : List ℕ) (ps : List Item) (ss : List Dot) (ds : List Deed) → doing_fault z caps ps ss ds ≡ None → length (book_of z.kinds ps ss).runs ≤ most_runs → length (book_of z.kinds (ps ++ puts_of ds) (ss ++ strikes_of ds)).runs ≤ most_runs
  doing_few caps ps ss [] e h = rw (nil_right ps, nil_right ss) h
  doing_few caps ps ss (d ∷ ds) e h =
      let n = none_of (joining_fault z.kinds caps (book_of z.kinds (ps ++ d.puts) (ss ++ d.strikes))) (doing_fault z caps (ps ++ d.puts) (ss ++ d.strikes) ds) e in
      rw (append_assoc ps d.puts (puts_of ds), append_assoc ss d.strikes (strikes_of ds)) at (doing_few caps (ps ++ d.puts) (ss ++ d.strikes) ds n.1 (joining_few z.kinds caps (book_of z.kinds (ps ++ d.puts) (ss ++ d.strikes)) n.0))

module _ (z : Setting) (m : Machine) (v : Inv z m) where
  pub closed_now : (r : ℕ) → Closed (m.pasts r).seen
  closed_now r = subst Closed (seen_end (v.log r) (length (v.log r)) (omega arith) ∙ sym (v.pasts r).seen) ((v.pasts r).closed (length (v.log r)))

  -- links

  inv_posts : (l : ℕ) (p : Letter) (output : List ℕ) → LetterOk z v.log p → Inv z (on_post m l (posts z l (m.posts l) p output)).after
  inv_posts l p output o =
      unless_both (append_refusal (z.links l) (map (letter_bytes z) (m.posts l)) (letter_bytes z p)) (refuse (m.posts l) (in_front (letter_bytes z p) output) []) (turn (m.posts l ++ p ∷ []) (in_front (letter_bytes z p) output) [] (wrote (length (letter_bytes z p))))
      (λ (t : Turn (List Letter)). Inv z (on_post m l t).after) (λ e. inv_post z m v l (m.posts l) (v.posts l))
      (λ e. inv_post z m v l (m.posts l ++ p ∷ []) pushed)
    where
      pushed : (q : Letter) → q ∈ (m.posts l ++ p ∷ []) → LetterOk z v.log q
      pushed q i = ⊎_elim (λ a. v.posts l q a) (λ a. ⊎_elim (λ b. subst (LetterOk z v.log) (sym b) o) (λ b. absurd b) a) (in_either q (m.posts l) (p ∷ []) i)

  pub removed_ok : (l i : ℕ) → Inv z (record { pasts = m.pasts; posts = changed m.posts l (remove (m.posts l) i) })
  removed_ok l i = inv_post z m v l (remove (m.posts l) i) (λ p n. v.posts l p (in_removed (m.posts l) i p n))

  pub inv_loses : (l i : ℕ) (o : Option Letter) → Inv z (on_post m l (loses z (m.posts l) i o)).after
  inv_loses l i None = inv_post z m v l (m.posts l) (v.posts l)
  inv_loses l i (Some p) = removed_ok l i

  pub inv_repeats : (l i : ℕ) (memory : List ℕ) (o : Option Letter) → slice_get (m.posts l) i ≡ o → Inv z (on_post m l (repeats z l (m.posts l) i memory o)).after
  inv_repeats l i memory None e = inv_post z m v l (m.posts l) (v.posts l)
  inv_repeats l i memory (Some p) e =
      let bytes = letter_bytes z p in
      let full = append_refusal (z.links l) (map (letter_bytes z) (m.posts l)) bytes in
      let last : Turn (List Letter) = turn (m.posts l ++ p ∷ []) (in_front bytes memory) [] accepted in
      let Fine = λ (t : Turn (List Letter)). Inv z (on_post m l t).after in
      unless_both (room_fault bytes memory) (refuse (m.posts l) memory []) (unless full (refuse (m.posts l) (in_front bytes memory) []) last) Fine (λ e. inv_post z m v l (m.posts l) (v.posts l))
      (λ _. unless_both full (refuse (m.posts l) (in_front bytes memory) []) last Fine (λ e. inv_post z m v l (m.posts l) (v.posts l))
      (λ _. inv_post z m v l (m.posts l ++ p ∷ []) (λ q i. ⊎_elim (λ a. v.posts l q a) (λ a. ⊎_elim (λ b. subst (LetterOk z v.log) (sym b) (v.posts l p (in_nth p (m.posts l) _ e))) (λ b. absurd b) a) (in_either q (m.posts l) (p ∷ []) i))))

  -- ship

  module _ (r : Number) where
    abbrev n : ℕ
    n = r.value

    abbrev x : Past
    x = m.pasts n

    abbrev ds : List Edits
    ds = v.log n

    abbrev letter : ℕ → Edits → Letter
    letter since es = record { from = origin n since x.step; content = es }

    now_seen : seen_at ds x.step ≡ all_of ds
    now_seen = seen_end ds x.step (let a = (v.pasts n).step in omega arith)

    whole_ok : LetterOk z v.log (letter 0 x.seen)
    whole_ok = record {
      sender = r.checked;
      ordered = omega arith;
      until = let a = (v.pasts n).step in omega arith;
      inside = λ e i. subst (λ es. e ∈ es) ((v.pasts n).seen ∙ sym now_seen) i;
      covers = λ e i. inl (subst (λ es. e ∈ es) (now_seen ∙ sym (v.pasts n).seen) i);
      few = (v.pasts n).few;
    }

    since_ok : (since : ℕ) → since ≤ x.step → x.forgotten ≤ since → let D = drop (since - x.forgotten) x.kept in length (book z (all_of D)).runs ≤ most_runs → LetterOk z v.log (letter since (all_of D))
    since_ok since le f few = record {
      sender = r.checked;
      ordered = le;
      until = let a = (v.pasts n).step in omega arith;
      inside = λ e i. subst (λ es. e ∈ es) (seen_halves ds since ∙ sym now_seen) (in_right e (seen_at ds since) (all_of (drop since ds)) (subst (λ l. e ∈ all_of l) dropped i));
      covers = λ e i. ⊎_elim (λ a. inr a) (λ a. inl (subst (λ l. e ∈ all_of l) (sym dropped) a)) (in_either e (seen_at ds since) (all_of (drop since ds)) (subst (λ es. e ∈ es) (now_seen ∙ sym (seen_halves ds since)) i));
      few = few;
    }
      where
        dropped : drop (since - x.forgotten) x.kept ≡ drop since ds
        dropped = ap (drop (since - x.forgotten)) (v.pasts n).kept ∙ drop-drop (since - x.forgotten) x.forgotten ds ∙ ap (λ k. drop k ds) (omega arith)

    pub inv_ships : (since : ℕ) (work : Work) (output : List ℕ) (l : ℕ) → Inv z (on_post m l (ships z n x since work output l (m.posts l))).after
    inv_ships since work output l =
        let D = drop (since - x.forgotten) x.kept in
        let p = letter since (all_of D) in
        let late = ltb x.step since || ltb since x.forgotten in
        let wrong = first_of (uniting_fault z work.capacities [] D) (short_fault (letter_bytes z p) output) in
        let Fine = λ (t : Turn (List Letter)). Inv z (on_post m l t).after in
        unless_both (refuse_if late (not_kept x.forgotten)) (refuse (m.posts l) output work.items) (collects z n x since D work.capacities output l (m.posts l)) Fine (λ e. inv_post z m v l (m.posts l) (v.posts l))
        (λ e. unless_both wrong (refuse (m.posts l) output []) (posts z l (m.posts l) p output) Fine (λ e. inv_post z m v l (m.posts l) (v.posts l))
        (λ w. let b = or_parts (ltb x.step since) (ltb since x.forgotten) (not_refused late (not_kept x.forgotten) e) in
        inv_posts l p output (since_ok since (ltb-false x.step since b.0) (ltb-false since x.forgotten b.1) (uniting_few z work.capacities [] D (none_of (uniting_fault z work.capacities [] D) (short_fault (letter_bytes z p) output) w).0 (omega arith)))))

    pub inv_whole : (output : List ℕ) (l : ℕ) → Inv z (on_post m l (ships_whole z n x output l (m.posts l))).after
    inv_whole output l =
        let p = letter 0 x.seen in
        unless_both (short_fault (letter_bytes z p) output) (refuse (m.posts l) output []) (posts z l (m.posts l) p output) (λ (t : Turn (List Letter)). Inv z (on_post m l t).after) (λ e. inv_post z m v l (m.posts l) (v.posts l)) (λ e. inv_posts l p output whole_ok)

    pub inv_forgets : (t : ℕ) → Inv z (on_past m n (forgets z x t)).after
    inv_forgets t =
        unless_both (refuse_if (ltb x.step t) (not_kept x.forgotten)) (refuse x [] []) _ (λ (u : Turn Past). Inv z (on_past m n u).after) (λ e. inv_same z m v n)
        (λ e. inv_forgot z m v n t (ltb-false x.step t (not_refused (ltb x.step t) (not_kept x.forgotten) e)))

    pub inv_reads : (part : ℕ) (place : Place) (numbers : List ℕ) → Inv z (on_past m n (reads z x part place numbers)).after
    inv_reads part place numbers = subst (λ (y : Past). Inv z (record { pasts = changed m.pasts n y; posts = m.posts })) (sym left) (inv_same z m v n)
      where
        same : (o : Option Refusal) (f : Refusal → Turn Past) (t : Turn Past) → ((e : Refusal) → (f e).after ≡ x) → t.after ≡ x → (unless o f t).after ≡ x
        same None f t a b = b
        same (Some e) f t a b = a e

        left : (reads z x part place numbers).after ≡ x
        left = same _ (refuse x numbers []) (shown_at x (book z x.seen) part place numbers) (λ e. refl) (same _ (refuse x numbers []) _ (λ e. refl) refl)

    -- a letter without a gap
    module _ (p : Letter) (o : LetterOk z v.log p) (gapless : p.from.since ≤ heard_of x.heard p.from.sender) where
      abbrev s : ℕ
      s = p.from.sender

      abbrev then : Edits
      then = x.seen ++ p.content

      pub caught_up : Part (seen_at (v.log s) p.from.until) then
      caught_up e i =
          ⊎_elim (λ a. in_right e x.seen p.content a)
          (λ a. in_left e x.seen p.content ((v.pasts n).caught s o.sender e (seen_more (v.log s) p.from.since (heard_of x.heard s) gapless e a)))
          (o.covers e i)

      pub content_part : Part p.content v.all
      content_part e i = (v.pasts s).part e (subst (λ l. e ∈ l) (sym (v.pasts s).seen) (seen_part (v.log s) p.from.until e (o.inside e i)))

      closing : Closed then
      closing e k i j = ⊎_elim (λ a. names_part x.seen then (λ f b. in_left f x.seen p.content b) k (closed_now n e k a j)) (λ a. names_part (seen_at (v.log s) p.from.until) then caught_up k ((v.pasts s).closed p.from.until e k (o.inside e a) j)) (in_either e x.seen p.content i)

      own_here : (y : Item) → y ∈ put_by v.all → y.dot.replica ≡ n → y.dot.counter ≤ highest n (book z then).runs
      own_here y i e =
          let a = (v.pasts n).own y i e in
          let fx = book_formed z v.all v.sane x.seen (v.pasts n).part in
          let fp = book_formed z v.all v.sane p.content content_part in
          let b : highest n (book z then).runs ≡ max (highest n (book z x.seen).runs) (highest n (book z p.content).runs) =
          ap (λ (t : Group). highest n t.runs) (book_union z v.all v.sane x.seen p.content (v.pasts n).part content_part)
          ∙ highest_union n _ _ (canonical_from _ fx.one_form) (canonical_from _ fp.one_form) in
          omega arith

      abbrev h' : List ℕ
      h' = hearing x.heard s p.from.until

      heard_ok : (q : ℕ) → is_replica q ≡ true → heard_of h' q ≤ length (v.log q)
      heard_ok q t = ⊎_elim
          (λ e. subst (λ j. heard_of h' j ≤ length (v.log j)) e (let a = hearing_here x.heard s p.from.until (v.pasts n).sixteen o.sender in let b = o.until in omega arith))
          (λ e. let a = hearing_there x.heard s p.from.until q o.sender t e in let b = (v.pasts n).heard q t in omega arith) (cases_eq s q)

      caught_ok : (q : ℕ) → is_replica q ≡ true → Part (seen_at (v.log q) (heard_of h' q)) then
      caught_ok q t = ⊎_elim
          (λ e. subst (λ j. Part (seen_at (v.log j) (heard_of h' j)) then) e (subst (λ k. Part (seen_at (v.log s) k) then) (sym (hearing_here x.heard s p.from.until (v.pasts n).sixteen o.sender)) caught_up))
          (λ e. subst (λ k. Part (seen_at (v.log q) k) then) (sym (hearing_there x.heard s p.from.until q o.sender t e)) (λ f i. in_left f x.seen p.content ((v.pasts n).caught q t f i))) (cases_eq s q)

      pub inv_fresh : x.step < last_step → length (book z then).runs ≤ most_runs → Inv z (record { pasts = changed m.pasts n (grown x p.content h'); posts = m.posts })
      inv_fresh room few =
          inv_grown z m v n p.content h' v.all v.sane v.named (λ f i. i) content_part room few o.few own_here (λ q k. (v.pasts q).own)
          (λ e i a. let b = (v.pasts n).dated e i a in omega arith) (λ q k. (v.pasts q).dated) closing (length-set x.heard (s - 1) p.from.until ∙ (v.pasts n).sixteen) heard_ok caught_ok
