-- Two that ship to one another come to one book.
use Rattle.std.proofs.Common.{◌≡◌, ℕ, ◌-◌, true, false, cond, ◌||◌, eqb, ltb, leb, ◌⊎◌, List, [], ◌∷◌, ◌++◌, map, length, drop, Some, None, sym, refl, ap, ◌∙◌, subst, ap₂, inl, inr, ⊎_elim, arith}
use lib.ListN.{length-map}
use Rattle.std.proofs.lemmas.Bool.{cond_both, eqb-true, eqb-false, ltb-false, leb-true, cases_Bool}
use Rattle.std.specs.List.{slice_get}
use Rattle.shelves.specs.Parcels.{append_refusal}
use Rattle.stores.specs.Puts.{first_of}
use Rattle.stores.specs.Sound.{FewParts}
use Rattle.refusals.specs.Table.{refuse_if}
use Rattle.records.specs.Written.{short_fault, in_front}
use Rattle.calls.specs.Faults.{own_parcel, gap, not_kept}
use Rattle.calls.specs.Holdings.{Work, heard_of, hearing, wrote, Turn, turn, refuse, unless}
use Rattle.calls.specs.Steps.{origin}
use Rattle.calls.specs.Arrivals.{room_fault, Verdict, turned_away, is_old, is_fresh}
use Rattle.history.specs.Sets.{◌∈◌}
use Rattle.history.specs.Worlds as worlds
use Rattle.history.specs.Worlds.{Number, Setting, Call, Bytewise, World, called}
use Rattle.history.specs.History.{Edit, Edits, all_of, Past, Letter, grown, letter_bytes, uniting_fault, posts, collects, ships, ships_whole, takes_fault, judges, takes, delivers, Machine, on_post, on_each, tells, blank, history}
use Rattle.history.specs.Law.{image, compared, Accepted, Ships, Meeting, Meets}
use Rattle.history.proofs.Members.{in_left, in_either, in_nth, nth_end}
use Rattle.history.proofs.Histories.{Part, same_book}
use Rattle.history.proofs.Invariants.{seen_at, seen_more, seen_end, LetterOk, Inv, inv_blank, changed_here, changed_there}
use Rattle.history.proofs.Steps.{unless_both, none_of, not_refused, caught_up}
use Rattle.history.proofs.Runs.{step_inv, step_image, run_inv, run_image}

ships_bytewise : (r l : ℕ) (k : Call) → Ships r l k → Bytewise k
ships_bytewise r l (worlds.Call.edit q pen bytes work output) s = absurd s
ships_bytewise r l (worlds.Call.ship q since work output k) s = tt
ships_bytewise r l (worlds.Call.ship_whole q output k) s = tt
ships_bytewise r l (worlds.Call.deliver q k i memory) s = absurd s
ships_bytewise r l (worlds.Call.lose k i) s = absurd s
ships_bytewise r l (worlds.Call.repeat k i memory) s = absurd s
ships_bytewise r l (worlds.Call.forget q t) s = absurd s
ships_bytewise r l (worlds.Call.read q part place numbers) s = absurd s

-- an accepted ship leaves a letter of the sender up to its step at the end of the link, and no past changed
pub record Shipped (m u : Machine) (r l : ℕ) : Type 0 where
  pub letter : Letter
  pub sender : letter.from.sender ≡ r
  pub until : letter.from.until ≡ (m.pasts r).step
  pub last : slice_get (u.posts l) (length (m.posts l)) ≡ Some letter
  pub pasts : u.pasts ≡ m.pasts

-- an accepted delivery brings the receiver up to the letter's step, with nothing but its content, and changes no other past
pub record Brought (m u : Machine) (q : ℕ) (p : Letter) : Type 0 where
  pub apart : eqb q p.from.sender ≡ false
  pub up : Part (m.pasts p.from.sender).seen (u.pasts q).seen
  pub most : Part (u.pasts q).seen ((m.pasts q).seen ++ p.content)
  pub others : (s : ℕ) → eqb q s ≡ false → u.pasts s ≡ m.pasts s

-- a ship and the delivery of that letter
pub record Moved (m u : Machine) (r q : ℕ) : Type 0 where
  pub apart : eqb q r ≡ false
  pub up : Part (m.pasts r).seen (u.pasts q).seen
  pub most : (e : Edit) → e ∈ (u.pasts q).seen → (e ∈ (m.pasts q).seen) ⊎ (e ∈ (m.pasts r).seen)
  pub others : (s : ℕ) → eqb q s ≡ false → u.pasts s ≡ m.pasts s

module _ (z : Setting) where
  module _ (m : Machine) where
    posts_leaves : (r l since : ℕ) (es : Edits) (output : List ℕ) → let t = posts z l (m.posts l) (record { from = origin r since (m.pasts r).step; content = es }) output in Accepted t.answer → Shipped m (on_post m l t).after r l
    posts_leaves r l since es output =
        unless_both (append_refusal (z.links l) (map (letter_bytes z) (m.posts l)) (letter_bytes z p)) (refuse (m.posts l) (in_front (letter_bytes z p) output) []) (turn (m.posts l ++ p ∷ []) (in_front (letter_bytes z p) output) [] (wrote (length (letter_bytes z p))))
        (λ (t : Turn (List Letter)). Accepted t.answer → Shipped m (on_post m l t).after r l) (λ e a. absurd a)
        (λ e a. record { letter = p; sender = refl; until = refl; last = ap (λ ps. slice_get ps (length (m.posts l))) (changed_here m.posts l (m.posts l ++ p ∷ [])) ∙ nth_end (m.posts l) p; pasts = refl })
      where
        p : Letter
        p = record { from = origin r since (m.pasts r).step; content = es }

    since_leaves : (r since : ℕ) (work : Work) (output : List ℕ) (l : ℕ) → let t = ships z r (m.pasts r) since work output l (m.posts l) in Accepted t.answer → Shipped m (on_post m l t).after r l
    since_leaves r since work output l =
        let x = m.pasts r in
        let D = drop (since - x.forgotten) x.kept in
        let p : Letter = record { from = origin r since x.step; content = all_of D } in
        let Fine = λ (t : Turn (List Letter)). Accepted t.answer → Shipped m (on_post m l t).after r l in
        let wrong = first_of (uniting_fault z work.capacities [] D) (short_fault (letter_bytes z p) output) in
        unless_both (refuse_if (ltb x.step since || ltb since x.forgotten) (not_kept x.forgotten)) (refuse (m.posts l) output work.items) (collects z r x since D work.capacities output l (m.posts l)) Fine (λ e a. absurd a)
        (λ _. unless_both wrong (refuse (m.posts l) output []) (posts z l (m.posts l) p output) Fine (λ e a. absurd a) (λ _ a. posts_leaves r l since (all_of D) output a))

    whole_leaves : (r : ℕ) (output : List ℕ) (l : ℕ) → let t = ships_whole z r (m.pasts r) output l (m.posts l) in Accepted t.answer → Shipped m (on_post m l t).after r l
    whole_leaves r output l =
        let x = m.pasts r in
        let p : Letter = record { from = origin r 0 x.step; content = x.seen } in
        unless_both (short_fault (letter_bytes z p) output) (refuse (m.posts l) output []) (posts z l (m.posts l) p output) (λ (t : Turn (List Letter)). Accepted t.answer → Shipped m (on_post m l t).after r l) (λ e a. absurd a) (λ _ a. posts_leaves r l 0 x.seen output a)

    ship_leaves : (r l : ℕ) (k : Call) → Ships r l k → Accepted (tells z k m).answer → Shipped m (tells z k m).after r l
    ship_leaves r l (worlds.Call.edit q pen bytes work output) s a = absurd s
    ship_leaves r l (worlds.Call.ship q since work output k) s a = subst (λ n. Shipped m (tells z (worlds.Call.ship q since work output k) m).after n l) s.0 (subst (λ j. Shipped m (tells z (worlds.Call.ship q since work output k) m).after q.value j) s.1 (since_leaves q.value since work output k a))
    ship_leaves r l (worlds.Call.ship_whole q output k) s a = subst (λ n. Shipped m (tells z (worlds.Call.ship_whole q output k) m).after n l) s.0 (subst (λ j. Shipped m (tells z (worlds.Call.ship_whole q output k) m).after q.value j) s.1 (whole_leaves q.value output k a))
    ship_leaves r l (worlds.Call.deliver q k i memory) s a = absurd s
    ship_leaves r l (worlds.Call.lose k i) s a = absurd s
    ship_leaves r l (worlds.Call.repeat k i memory) s a = absurd s
    ship_leaves r l (worlds.Call.forget q t) s a = absurd s
    ship_leaves r l (worlds.Call.read q part place numbers) s a = absurd s

  module _ (m : Machine) (v : Inv z m) (q : Number) (l i : ℕ) (memory : List ℕ) (p : Letter) (o : LetterOk z v.log p) (now : p.from.until ≡ (m.pasts p.from.sender).step) where
    abbrev n : ℕ
    n = q.value

    abbrev s : ℕ
    s = p.from.sender

    abbrev x : Past
    x = m.pasts n

    abbrev h : ℕ
    h = heard_of x.heard s

    all_there : seen_at (v.log s) p.from.until ≡ (m.pasts s).seen
    all_there = seen_end (v.log s) p.from.until (let a = (v.pasts s).step in omega arith) ∙ sym (v.pasts s).seen

    apart_from : eqb s n ≡ false → eqb n s ≡ false
    apart_from e = ⊎_elim (λ t. absurd (eqb-false s n e (sym (eqb-true n s t)))) (λ t. t) (cases_Bool (eqb n s))

    abbrev Fine : Turn (Past × List Letter) → Type 0
    Fine t = Accepted t.answer → Brought m (on_each m n l t).after n p

    took : eqb s n ≡ false → takes_fault z n x p ≡ None → Fine (takes z n x (m.posts l) i memory p is_fresh)
    took k e a =
        let y = grown x p.content (hearing x.heard s p.from.until) in
        let here = ap (λ (t : Past). t.seen) (changed_here m.pasts n y) in
        let g = (none_of (refuse_if (ltb h p.from.since) (gap h)) _ e).0 in
        record {
          apart = apart_from k;
          up = λ f j. subst (λ es. f ∈ es) (sym here) (caught_up z m v q p o (ltb-false h p.from.since (not_refused (ltb h p.from.since) (gap h) g)) f (subst (λ es. f ∈ es) (sym all_there) j));
          most = λ f j. subst (λ es. f ∈ es) here j;
          others = λ s k. changed_there m.pasts n y s k;
        }

    kept : eqb s n ≡ false → leb p.from.until h ≡ true → Fine (takes z n x (m.posts l) i memory p is_old)
    kept k b a =
        let here = ap (λ (t : Past). t.seen) (changed_here m.pasts n x) in
        record {
          apart = apart_from k;
          up = λ f j. subst (λ es. f ∈ es) (sym here) ((v.pasts n).caught s o.sender f (seen_more (v.log s) p.from.until h (leb-true p.from.until h b) f (subst (λ es. f ∈ es) (sym all_there) j)));
          most = λ f j. in_left f x.seen p.content (subst (λ es. f ∈ es) here j);
          others = λ s k. changed_there m.pasts n x s k;
        }

    brings : Fine (delivers z n x (m.posts l) i memory (Some p))
    brings =
        let FineV = λ (w : Verdict). Fine (takes z n x (m.posts l) i memory p w) in
        let own = refuse_if (eqb s n) (own_parcel s) in
        let late = unless (takes_fault z n x p) turned_away is_fresh in
        let known = leb p.from.until h in
        unless_both (room_fault (letter_bytes z p) memory) (refuse (x, m.posts l) memory []) (takes z n x (m.posts l) i memory p (judges z n x p)) Fine (λ e a. absurd a)
        (λ _. unless_both own turned_away (cond known is_old late) FineV (λ e a. absurd a)
        (λ e. let k = not_refused (eqb s n) (own_parcel s) e in
        cond_both known is_old late FineV (λ b. kept k b)
        (λ b. unless_both (takes_fault z n x p) turned_away is_fresh FineV (λ f a. absurd a) (λ f. took k f))))

    content_seen : Part p.content (m.pasts s).seen
    content_seen f k = subst (λ es. f ∈ es) all_there (o.inside f k)

module _ (z : Setting) (few : FewParts z.kinds) where
  moved : (m : Machine) (v : Inv z m) (r : ℕ) (q : Number) (l : ℕ) (c : Call) (memory : List ℕ) → Ships r l c →
      let u₁ = tells z c m in
      let u₂ = tells z (worlds.Call.deliver q l (length (m.posts l)) memory) u₁.after in
      Accepted u₁.answer → Accepted u₂.answer → Moved m u₂.after r q.value
  moved m v r q l c memory ship a b =
      record {
        apart = subst (λ s. eqb q.value s ≡ false) sh.sender br.apart;
        up = λ e n. br.up e (subst (λ s. e ∈ (u.pasts s).seen) (sym sh.sender) (subst (λ (f : ℕ → Past). e ∈ (f r).seen) (sym sh.pasts) n));
        most = λ e n. ⊎_elim (λ t. inl (subst (λ (f : ℕ → Past). e ∈ (f q.value).seen) sh.pasts t))
            (λ t. inr (subst (λ (f : ℕ → Past). e ∈ (f r).seen) sh.pasts (subst (λ s. e ∈ (u.pasts s).seen) sh.sender (content_seen z u vu q l i memory p ok now e t)))) (in_either e (u.pasts q.value).seen p.content (br.most e n));
        others = λ s n. br.others s n ∙ ap (λ (f : ℕ → Past). f s) sh.pasts;
      }
    where
      u : Machine
      u = (tells z c m).after

      vu : Inv z u
      vu = step_inv z few m v c (ships_bytewise r l c ship)

      sh : Shipped m u r l
      sh = ship_leaves z m r l c ship a

      p : Letter
      p = sh.letter

      i : ℕ
      i = length (m.posts l)

      ok : LetterOk z vu.log p
      ok = vu.posts l p (in_nth p (u.posts l) i sh.last)

      now : p.from.until ≡ (u.pasts p.from.sender).step
      now = sh.until ∙ ap (λ (f : ℕ → Past). (f r).step) (sym sh.pasts) ∙ ap (λ s. (u.pasts s).step) (sym sh.sender)

      br : Brought u (on_each u q.value l (delivers z q.value (u.pasts q.value) (u.posts l) i memory (slice_get (u.posts l) i))).after q.value p
      br = subst (λ o. Accepted (delivers z q.value (u.pasts q.value) (u.posts l) i memory o).answer → Brought u (on_each u q.value l (delivers z q.value (u.pasts q.value) (u.posts l) i memory o)).after q.value p) (sym sh.last) (brings z u vu q l i memory p ok now) b

  meeting : (m : Machine) → Inv z m → Meeting z (image z m)
  meeting m v a b l n k₁ k₃ mem mem' s₁ s₃ h₁ h₂ h₃ h₄ =
      ap (λ (o : Turn World). (o.after.replicas a.value).book) q₄
      ∙ same_book z v₄.all v₄.sane (u₄.after.pasts a.value).seen (u₄.after.pasts b.value).seen there back (v₄.pasts b.value).part
      ∙ sym (ap (λ (o : Turn World). (o.after.replicas b.value).book) q₄)
    where
      Fine : Turn World → Type 0
      Fine o = Accepted o.answer

      u₁ : Turn Machine
      u₁ = tells z k₁ m

      k₂ : Call
      k₂ = worlds.Call.deliver b l (length (m.posts l)) mem

      u₂ : Turn Machine
      u₂ = tells z k₂ u₁.after

      u₃ : Turn Machine
      u₃ = tells z k₃ u₂.after

      k₄ : Call
      k₄ = worlds.Call.deliver a n (length (u₂.after.posts n)) mem'

      u₄ : Turn Machine
      u₄ = tells z k₄ u₃.after

      b₁ : Bytewise k₁
      b₁ = ships_bytewise a.value l k₁ s₁

      b₃ : Bytewise k₃
      b₃ = ships_bytewise b.value n k₃ s₃

      v₁ : Inv z u₁.after
      v₁ = step_inv z few m v k₁ b₁

      v₂ : Inv z u₂.after
      v₂ = step_inv z few u₁.after v₁ k₂ tt

      v₃ : Inv z u₃.after
      v₃ = step_inv z few u₂.after v₂ k₃ b₃

      v₄ : Inv z u₄.after
      v₄ = step_inv z few u₃.after v₃ k₄ tt

      o₁ : Turn World
      o₁ = called z k₁ (image z m)

      o₂ : Turn World
      o₂ = called z (worlds.Call.deliver b l (length ((image z m).links l).parcels) mem) o₁.after

      o₃ : Turn World
      o₃ = called z k₃ o₂.after

      o₄ : Turn World
      o₄ = called z (worlds.Call.deliver a n (length (o₂.after.links n).parcels) mem') o₃.after

      q₁ : o₁ ≡ compared z u₁
      q₁ = step_image z few m v k₁ b₁

      q₂ : o₂ ≡ compared z u₂
      q₂ = ap₂ (λ c (o : Turn World). called z (worlds.Call.deliver b l c mem) o.after) (length-map (m.posts l) (letter_bytes z)) q₁ ∙ step_image z few u₁.after v₁ k₂ tt

      q₃ : o₃ ≡ compared z u₃
      q₃ = ap (λ (o : Turn World). called z k₃ o.after) q₂ ∙ step_image z few u₂.after v₂ k₃ b₃

      q₄ : o₄ ≡ compared z u₄
      q₄ =
          ap₂ (λ c (o : Turn World). called z (worlds.Call.deliver a n c mem') o.after) (ap (λ (o : Turn World). length (o.after.links n).parcels) q₂ ∙ length-map (u₂.after.posts n) (letter_bytes z)) q₃
          ∙ step_image z few u₃.after v₃ k₄ tt

      one : Moved m u₂.after a.value b.value
      one = moved m v a.value b l k₁ mem s₁ (subst Fine q₁ h₁) (subst Fine q₂ h₂)

      two : Moved u₂.after u₄.after b.value a.value
      two = moved u₂.after v₂ b.value a n k₃ mem' s₃ (subst Fine q₃ h₃) (subst Fine q₄ h₄)

      b_kept : u₄.after.pasts b.value ≡ u₂.after.pasts b.value
      b_kept = two.others b.value two.apart

      there : Part (u₄.after.pasts a.value).seen (u₄.after.pasts b.value).seen
      there e i = subst (λ (t : Past). e ∈ t.seen) (sym b_kept) (⊎_elim (λ t. one.up e (subst (λ (t : Past). e ∈ t.seen) (one.others a.value one.apart) t)) (λ t. t) (two.most e i))

      back : Part (u₄.after.pasts b.value).seen (u₄.after.pasts a.value).seen
      back e i = two.up e (subst (λ (t : Past). e ∈ t.seen) b_kept i)

  pub meets : Meets z
  meets ks bs = subst (Meeting z) (sym (run_image z few ks bs (blank z) (inv_blank z))) (meeting (history z (blank z) ks) (run_inv z few ks bs (blank z) (inv_blank z)))
