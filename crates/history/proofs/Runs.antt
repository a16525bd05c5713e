-- Every call keeps what holds of the machine, and the replicas follow it.
use Rattle.std.proofs.Common.{◌≡◌, ℕ, cond, not, eqb, ltb, leb, List, [], ◌∷◌, ◌++◌, map, length, Some, None, Option, sym, refl, ap, ◌∙◌, subst, arith}
use Rattle.std.proofs.lemmas.Bool.{cond_both, ltb-false}
use Rattle.std.specs.List.{slice_get, remove, AllByRecursion}
use Rattle.shelves.specs.Parcels.{append_refusal}
use Rattle.causal.specs.declared.places.Place.{Place}
use Rattle.stores.specs.Faults.{bad_address}
use Rattle.stores.specs.Puts.{first_of}
use Rattle.stores.specs.Sound.{FewParts}
use Rattle.reading.specs.Reading.{complete, parcel_group}
use Rattle.records.specs.Written.{written, record_count, too_short, in_front}
use Rattle.refusals.specs.Table.{refuse_if}
use Rattle.groups.specs.Limits.{book_fault, clash_fault}
use Rattle.calls.specs.Actions.{standing}
use Rattle.calls.specs.Faults.{own_parcel, gap}
use Rattle.calls.specs.Holdings.{heard_of, hearing, counted, Turn, turn, refuse, unless}
use Rattle.calls.specs.Steps.{step_fault, next_origin}
use Rattle.calls.specs.Arrivals.{room_fault, Verdict, turned_away, is_old, is_fresh, delivered}
use Rattle.calls.specs.Links.{lost, repeated}
use Rattle.calls.specs.Reads.{is_readable, codes, read}
use Rattle.history.specs.Sets.{◌∈◌}
use Rattle.history.specs.Worlds as worlds
use Rattle.history.specs.Worlds.{Number, Setting, Call, Bytewise, World, changed, called, trace, run}
use Rattle.history.specs.History.{Past, Letter, grown, book, letter_bytes, kept_bytes, takes_fault, judges, takes, delivers, edits, ships, ships_whole, loses, repeats, forgets, reads, Machine, on_each, tells, tale, history}
use Rattle.history.specs.Law.{shown, shown_link, image, compared}
use Rattle.history.proofs.Members.{in_nth}
use Rattle.history.proofs.Histories.{Part}
use Rattle.history.proofs.Invariants.{seen_part, LetterOk, Inv, inv_same, inv_post}
use Rattle.history.proofs.Simulation.{unless_same, nth_map, turn_past, past_world, post_world, each_world, loses_shown, repeats_shown, forgets_shown}
use Rattle.history.proofs.Followed.{read_back, ships_shown, whole_shown, delivers_shown}
use Rattle.history.proofs.Steps.{unless_both, none_of, not_refused, book_few, step_room, removed_ok, inv_loses, inv_repeats, inv_ships, inv_whole, inv_forgets, inv_reads, inv_fresh}
use Rattle.history.proofs.Edited.{inv_edits, image_edits}

module _ (z : Setting) (few : FewParts z.kinds) where
  module _ (m : Machine) (v : Inv z m) where
    -- a letter on a link is read back

    letter_part : (p : Letter) → LetterOk z v.log p → Part p.content v.all
    letter_part p o e i = (v.pasts p.from.sender).part e (subst (λ l. e ∈ l) (sym (v.pasts p.from.sender).seen) (seen_part (v.log p.from.sender) p.from.until e (o.inside e i)))

    letter_read : (p : Letter) → LetterOk z v.log p → parcel_group z.kinds (letter_bytes z p) ≡ complete (book z p.content) p.from (record_count (book z p.content))
    letter_read p o =
        let a = (v.pasts p.from.sender).step in
        let b = (v.pasts p.from.sender).limit in
        let c = o.until in
        read_back z v.all v.sane p.content p.from (letter_part p o) o.few o.sender o.ordered (omega arith)

    -- deliver

    module _ (r : Number) (l i : ℕ) where
      abbrev n : ℕ
      n = r.value

      abbrev x : Past
      x = m.pasts n

      abbrev On : Turn (Past × List Letter) → Type 0
      On t = Inv z (on_each m n l t).after

      stays : Inv z (record { pasts = changed m.pasts n x; posts = changed m.posts l (m.posts l) })
      stays = inv_same z (record { pasts = m.pasts; posts = changed m.posts l (m.posts l) }) (inv_post z m v l (m.posts l) (v.posts l)) n

      fresh_ok : (p : Letter) → LetterOk z v.log p → takes_fault z n x p ≡ None → (memory : List ℕ) → On (takes z n x (m.posts l) i memory p is_fresh)
      fresh_ok p o e memory =
          let h = heard_of x.heard p.from.sender in
          let shelf = append_refusal (z.deltas n) (kept_bytes z n x.forgotten x.kept) (written (book z p.content) (next_origin n x.step)) in
          let judged = book_fault z.kinds (z.capacities n) (book z (x.seen ++ p.content)) in
          let clash = clash_fault (book z x.seen).items 0 (book z p.content).items in
          let a = none_of (refuse_if (ltb h p.from.since) (gap h)) (first_of (step_fault x.step 0) (first_of clash (first_of judged shelf))) e in
          let b = none_of (step_fault x.step 0) (first_of clash (first_of judged shelf)) a.1 in
          let c = none_of clash (first_of judged shelf) b.1 in
          let d = none_of judged shelf c.1 in
          removed_ok z (record { pasts = changed m.pasts n (grown x p.content (hearing x.heard p.from.sender p.from.until)); posts = m.posts })
          (inv_fresh z m v r p o (ltb-false h p.from.since (not_refused (ltb h p.from.since) (gap h) a.0)) (step_room x.step 0 b.0) (book_few z.kinds (z.capacities n) (book z (x.seen ++ p.content)) d.0)) l i

      old_ok : (p : Letter) (memory : List ℕ) → On (takes z n x (m.posts l) i memory p is_old)
      old_ok p memory = inv_same z (record { pasts = m.pasts; posts = changed m.posts l (remove (m.posts l) i) }) (removed_ok z m v l i) n

      inv_takes : (p : Letter) (memory : List ℕ) → LetterOk z v.log p → On (takes z n x (m.posts l) i memory p (judges z n x p))
      inv_takes p memory o =
          let Fine = λ (w : Verdict). On (takes z n x (m.posts l) i memory p w) in
          let own = refuse_if (eqb p.from.sender n) (own_parcel p.from.sender) in
          let late = unless (takes_fault z n x p) turned_away is_fresh in
          let known = leb p.from.until (heard_of x.heard p.from.sender) in
          unless_both own turned_away (cond known is_old late) Fine (λ e. stays)
          (λ e. cond_both known is_old late Fine (λ b. old_ok p memory)
          (λ b. unless_both (takes_fault z n x p) turned_away is_fresh Fine (λ f. stays) (λ f. fresh_ok p o f memory)))

      inv_delivers : (memory : List ℕ) (o : Option Letter) → slice_get (m.posts l) i ≡ o → On (delivers z n x (m.posts l) i memory o)
      inv_delivers memory None e = stays
      inv_delivers memory (Some p) e =
          unless_both (room_fault (letter_bytes z p) memory) (refuse (x, m.posts l) memory []) (takes z n x (m.posts l) i memory p (judges z n x p)) On (λ f. stays)
          (λ f. inv_takes p memory (v.posts l p (in_nth p (m.posts l) i e)))

    pub step_inv : (k : Call) → Bytewise k → Inv z (tells z k m).after
    step_inv (worlds.Call.edit r pen bytes work output) b = inv_edits z few m v r pen bytes work output b
    step_inv (worlds.Call.ship r since work output l) b = inv_ships z m v r since work output l
    step_inv (worlds.Call.ship_whole r output l) b = inv_whole z m v r output l
    step_inv (worlds.Call.deliver r l i memory) b = inv_delivers r l i memory (slice_get (m.posts l) i) refl
    step_inv (worlds.Call.lose l i) b = inv_loses z m v l i (slice_get (m.posts l) i)
    step_inv (worlds.Call.repeat l i memory) b = inv_repeats z m v l i memory (slice_get (m.posts l) i) refl
    step_inv (worlds.Call.forget r t) b = inv_forgets z m v r t
    step_inv (worlds.Call.read r part place numbers) b = inv_reads z m v r part place numbers

    reads_shown : (r : ℕ) (x : Past) (part : ℕ) (place : Place) (numbers : List ℕ) → read z.kinds (shown z r x) part place numbers ≡ turn_past z r (reads z x part place numbers)
    reads_shown r x part place numbers =
        let found = codes (standing (book z x.seen) part place) in
        let short = refuse_if (ltb (length numbers) (length found)) (too_short (length found)) in
        let last : Turn Past = turn x (in_front found numbers) [] (counted (length found)) in
        unless_same (turn_past z r) (refuse_if (not (is_readable z.kinds part place)) bad_address) _ (refuse x numbers []) (unless short (refuse x numbers []) last) _ _ refl (λ e. refl)
        (λ _. unless_same (turn_past z r) short _ (refuse x numbers []) last _ _ refl (λ e. refl) (λ _. refl))

    pub step_image : (k : Call) → Bytewise k → called z k (image z m) ≡ compared z (tells z k m)
    step_image (worlds.Call.edit r pen bytes work output) b = past_world z m r.value _ (edits z r.value (m.pasts r.value) pen bytes work output) (image_edits z few m v r pen bytes work output b)
    step_image (worlds.Call.ship r since work output l) b = post_world z m l _ (ships z r.value (m.pasts r.value) since work output l (m.posts l)) (ships_shown z v.all v.sane v.log r.value r.checked (m.pasts r.value) (v.log r.value) (v.pasts r.value) since work output l (m.posts l))
    step_image (worlds.Call.ship_whole r output l) b = post_world z m l _ (ships_whole z r.value (m.pasts r.value) output l (m.posts l)) (whole_shown z v.all v.sane v.log r.value r.checked (m.pasts r.value) (v.log r.value) (v.pasts r.value) output l (m.posts l))
    step_image (worlds.Call.deliver r l i memory) b =
        each_world z m r.value l _ (delivers z r.value (m.pasts r.value) (m.posts l) i memory (slice_get (m.posts l) i))
        (ap (delivered z.kinds (shown z r.value (m.pasts r.value)) (shown_link z l (m.posts l)) i memory) (nth_map (letter_bytes z) (m.posts l) i)
        ∙ delivers_shown z v.all v.sane v.log r.value r.checked (m.pasts r.value) (v.log r.value) (v.pasts r.value) l (m.posts l) i memory (slice_get (m.posts l) i)
        (λ p e. let o = v.posts l p (in_nth p (m.posts l) i e) in (letter_part p o, letter_read p o)))
    step_image (worlds.Call.lose l i) b = post_world z m l _ (loses z (m.posts l) i (slice_get (m.posts l) i)) (ap (lost (shown_link z l (m.posts l)) i) (nth_map (letter_bytes z) (m.posts l) i) ∙ loses_shown z l (m.posts l) i (slice_get (m.posts l) i))
    step_image (worlds.Call.repeat l i memory) b = post_world z m l _ (repeats z l (m.posts l) i memory (slice_get (m.posts l) i)) (ap (repeated (shown_link z l (m.posts l)) i memory) (nth_map (letter_bytes z) (m.posts l) i) ∙ repeats_shown z l (m.posts l) i memory (slice_get (m.posts l) i))
    step_image (worlds.Call.forget r t) b = past_world z m r.value _ (forgets z (m.pasts r.value) t) (forgets_shown z r.value (m.pasts r.value) t)
    step_image (worlds.Call.read r part place numbers) b = past_world z m r.value _ (reads z (m.pasts r.value) part place numbers) (reads_shown r.value (m.pasts r.value) part place numbers)

  -- over a list of calls

  pub follow : (ks : List Call) → AllByRecursion Bytewise ks → (m : Machine) → Inv z m → trace z (image z m) ks ≡ map (compared z) (tale z m ks)
  follow [] b m v = refl
  follow (k ∷ ks) b m v =
      ap (λ (o : Turn World). o ∷ trace z o.after ks) (step_image m v k b.0)
      ∙ ap (λ l. compared z (tells z k m) ∷ l) (follow ks b.1 (tells z k m).after (step_inv m v k b.0))

  pub run_inv : (ks : List Call) → AllByRecursion Bytewise ks → (m : Machine) → Inv z m → Inv z (history z m ks)
  run_inv [] b m v = v
  run_inv (k ∷ ks) b m v = run_inv ks b.1 (tells z k m).after (step_inv m v k b.0)

  pub run_image : (ks : List Call) → AllByRecursion Bytewise ks → (m : Machine) → Inv z m → run z (image z m) ks ≡ image z (history z m ks)
  run_image [] b m v = refl
  run_image (k ∷ ks) b m v = ap (λ (o : Turn World). run z o.after ks) (step_image m v k b.0) ∙ run_image ks b.1 (tells z k m).after (step_inv m v k b.0)
