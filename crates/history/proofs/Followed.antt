-- Ship, deliver and edit on what is shown of the machine, as the machine does them.
use Rattle.std.proofs.Common.{◌≡◌, ℕ, ◌+◌, ◌-◌, ◌≤◌, true, cond, ◌||◌, eqb, ltb, leb, List, [], ◌∷◌, ◌++◌, map, length, drop, Some, None, Option, sym, refl, ap, ◌∙◌, subst, ap₂, inl, inr, arith, length-drop}
use Rattle.std.proofs.lemmas.List.{drop-map}
use Rattle.std.proofs.lemmas.Bool.{and_from, le-leb}
use Rattle.refusals.specs.declared.Refusal.{Refusal}
use Rattle.shelves.specs.Parcels.{append_refusal}
use Rattle.causal.specs.Dots.{is_replica}
use Rattle.contexts.specs.Contexts.{most_runs}
use Rattle.stores.specs.Puts.{first_of}
use Rattle.groups.specs.Groups.{Group, empty, joined, joined_all}
use Rattle.records.specs.declared.record.Origin.{Origin}
use Rattle.reading.specs.Reading.{complete, parcel_group}
use Rattle.records.specs.Written.{written, record_count, short_fault, in_front}
use Rattle.reading.proofs.ReadBack.{parcel_back}
use Rattle.refusals.specs.Table.{refuse_if}
use Rattle.groups.specs.Limits.{book_fault, clash_fault}
use Rattle.calls.specs.Holdings.{Shelf, Replica, Work, heard_of, hearing, fresh, old, wrote, arrived, Turn, turn, refuse, unless}
use Rattle.calls.specs.Steps.{step_fault, origin, next_origin, last_step}
use Rattle.calls.specs.Faults.{own_parcel, gap, not_kept}
use Rattle.calls.specs.Actions.{Deed, group_of}
use Rattle.calls.specs.Edits.{joinings_fault, stepped, entered, joined_up}
use Rattle.calls.specs.Ships.{sent, read_group, kept_group, shipped, ship, ship_whole}
use Rattle.calls.specs.Arrivals.{room_fault, Verdict, turned_away, is_old, is_fresh, verdict, settled, unpacked, delivered}
use Rattle.history.specs.Sets.{◌∈◌}
use Rattle.history.specs.Worlds.{Setting}
use Rattle.history.specs.History.{Edits, all_of, Past, Letter, grown, made, book, letter_bytes, kept_bytes, doing_fault, notes, enters, uniting_fault, posts, collects, ships, ships_whole, judges, takes, delivers}
use Rattle.history.specs.Law.{shown, shown_link}
use Rattle.history.proofs.Members.{in_drop}
use Rattle.history.proofs.Histories.{Part, Sane, book_formed, book_narrow, book_union, joins_book, joinings_book}
use Rattle.history.proofs.Invariants.{Log, PastOk, all_in}
use Rattle.history.proofs.Simulation.{unless_same, mapped, turn_past, turn_post, turn_each, posts_shown, post_gone, kept_push}

module _ (z : Setting) (all : Edits) (sane : Sane z.kinds all) where
  -- a set that is few runs, under an origin that fits, is read back
  pub read_back : (d : Edits) (o : Origin) → Part d all → length (book z d).runs ≤ most_runs → is_replica o.sender ≡ true → o.since ≤ o.until → o.until ≤ last_step
      → parcel_group z.kinds (written (book z d) o) ≡ complete (book z d) o (record_count (book z d))
  read_back d o p f s le u =
      parcel_back z.kinds (book z d) o (book_formed z all sane d p)
      (record { few = f; narrow = book_narrow z all sane d p; origin = and_from (is_replica o.sender) (leb o.since o.until) s (le-leb o.since o.until le); until_fits = omega arith })

  kept_read : (r n : ℕ) (ds : List Edits) → is_replica r ≡ true → n + length ds ≤ last_step → ((d : Edits) → d ∈ ds → Part d all × (length (book z d).runs ≤ most_runs))
      → map (kept_group z.kinds) (kept_bytes z r n ds) ≡ map (book z) ds
  kept_read r n [] c l h = refl
  kept_read r n (d ∷ ds) c l h =
      let a = h d (inl refl) in
      ap₂ (λ g gs. g ∷ gs) (ap read_group (read_back d (next_origin r n) a.0 a.1 c (omega arith) (omega arith)))
      (kept_read r (n + 1) ds c (omega arith) (λ e m. h e (inr m)))

  module _ (L : Log) (r : ℕ) (checked : is_replica r ≡ true) (x : Past) (ds : List Edits) (o : PastOk z all L r x ds) where
    pub kept_count : x.forgotten + length x.kept ≡ x.step
    kept_count = let a = ap length o.kept ∙ length-drop x.forgotten ds in let b = o.behind in let c = o.step in omega arith

    kept_part : (d : Edits) → d ∈ x.kept → Part d all × (length (book z d).runs ≤ most_runs)
    kept_part d m =
        let n : d ∈ ds = in_drop d x.forgotten ds (subst (λ l. d ∈ l) o.kept m) in
        ((λ e i. o.part e (subst (λ l. e ∈ l) (sym o.seen) (all_in d ds n e i))), o.small d n)

    kept_groups : (k : ℕ) → map (kept_group z.kinds) (drop k (kept_bytes z r x.forgotten x.kept)) ≡ map (book z) (drop k x.kept)
    kept_groups k =
        let a = kept_count in
        let b = o.limit in
        sym (drop-map (kept_group z.kinds) k (kept_bytes z r x.forgotten x.kept))
        ∙ ap (drop k) (kept_read r x.forgotten x.kept checked (omega arith) kept_part)
        ∙ drop-map (book z) k x.kept

    pub grown_shown : (d : Edits) (h : List ℕ) → book z (x.seen ++ d) ≡ joined z.kinds (book z x.seen) (book z d) → stepped z.kinds (shown z r x) (book z d) h ≡ shown z r (grown x d h)
    grown_shown d h e = λ i. record {
      number = r;
      capacities = z.capacities r;
      book = sym e i;
      deltas = record { sizes = z.deltas r; parcels = pushed i };
      step = x.step + 1;
      forgotten = x.forgotten;
      heard = h;
    }
      where
        pushed : kept_bytes z r x.forgotten x.kept ++ written (book z d) (next_origin r x.step) ∷ [] ≡ kept_bytes z r x.forgotten (x.kept ++ d ∷ [])
        pushed = ap (λ n. kept_bytes z r x.forgotten x.kept ++ written (book z d) (next_origin r n) ∷ []) (sym kept_count) ∙ kept_push z r x.forgotten x.kept d

    -- ship

    collects_shown : (since : ℕ) (D : List Edits) (caps output : List ℕ) (l : ℕ) (ps : List Letter) → ((d : Edits) → d ∈ D → Part d all)
        → shipped z.kinds (shown z r x) since (map (book z) D) caps output (shown_link z l ps) ≡ turn_post z l (collects z r x since D caps output l ps)
    collects_shown since D caps output l ps parts =
        let LK = shown_link z l ps in
        let p : Letter = record { from = origin r since x.step; content = all_of D } in
        let F = λ (t : Option Refusal) (g : Group). unless {A = Turn Shelf} (first_of t (short_fault (written g (origin r since x.step)) output)) (refuse LK output []) (sent LK (written g (origin r since x.step)) output) in
        ap₂ F (joinings_book z all sane caps [] D (λ e m. absurd m) parts) (joins_book z all sane [] D (λ e m. absurd m) parts)
        ∙ unless_same (turn_post z l) (first_of (uniting_fault z caps [] D) (short_fault (letter_bytes z p) output)) _ (refuse ps output []) (posts z l ps p output) _ _ refl (λ e. refl) (λ e. posts_shown z l ps p output)

    pub ships_shown : (since : ℕ) (work : Work) (output : List ℕ) (l : ℕ) (ps : List Letter) → ship z.kinds (shown z r x) since work output (shown_link z l ps) ≡ turn_post z l (ships z r x since work output l ps)
    ships_shown since work output l ps =
        let D = drop (since - x.forgotten) x.kept in
        unless_same (turn_post z l) (refuse_if (ltb x.step since || ltb since x.forgotten) (not_kept x.forgotten)) _ (refuse ps output work.items) (collects z r x since D work.capacities output l ps) _ _ refl (λ e. refl)
        (λ e. ap (λ gs. shipped z.kinds (shown z r x) since gs work.capacities output (shown_link z l ps)) (kept_groups (since - x.forgotten))
        ∙ collects_shown since D work.capacities output l ps (λ d m. (kept_part d (in_drop d (since - x.forgotten) x.kept m)).0))

    pub whole_shown : (output : List ℕ) (l : ℕ) (ps : List Letter) → ship_whole (shown z r x) output (shown_link z l ps) ≡ turn_post z l (ships_whole z r x output l ps)
    whole_shown output l ps =
        let p : Letter = record { from = origin r 0 x.step; content = x.seen } in
        unless_same (turn_post z l) (short_fault (letter_bytes z p) output) _ (refuse ps output []) (posts z l ps p output) _ _ refl (λ e. refl) (λ e. posts_shown z l ps p output)

    -- deliver

    judges_shown : (p : Letter) → book z (x.seen ++ p.content) ≡ joined z.kinds (book z x.seen) (book z p.content) → verdict z.kinds (shown z r x) (book z p.content) p.from ≡ judges z r x p
    judges_shown p e =
        let h = heard_of x.heard p.from.sender in
        let g = book z p.content in
        ap (λ (b : Group). unless {A = Verdict} (refuse_if (eqb p.from.sender r) (own_parcel p.from.sender)) turned_away
        (cond (leb p.from.until h) is_old
        (unless (first_of (refuse_if (ltb h p.from.since) (gap h)) (first_of (step_fault x.step 0) (first_of (clash_fault (book z x.seen).items 0 g.items) (first_of (book_fault z.kinds (z.capacities r) b) (append_refusal (z.deltas r) (kept_bytes z r x.forgotten x.kept) (written g (next_origin r x.step))))))) turned_away is_fresh))) (sym e)

    takes_shown : (l : ℕ) (ps : List Letter) (n : ℕ) (memory : List ℕ) (p : Letter) (w : Verdict) → book z (x.seen ++ p.content) ≡ joined z.kinds (book z x.seen) (book z p.content)
        → settled z.kinds (shown z r x) (shown_link z l ps) n (letter_bytes z p) memory (book z p.content) p.from w ≡ turn_each z r l (takes z r x ps n memory p w)
    takes_shown l ps n memory p (turned_away fault) e = refl
    takes_shown l ps n memory p is_old e = λ i. record { answer = arrived old; after = (shown z r x, post_gone z l ps n i); memory = in_front (letter_bytes z p) memory; work = [] }
    takes_shown l ps n memory p is_fresh e = λ i. record {
      answer = arrived fresh;
      after = (grown_shown p.content (hearing x.heard p.from.sender p.from.until) e i, post_gone z l ps n i);
      memory = in_front (written (book z p.content) (next_origin r x.step)) memory;
      work = [];
    }

    pub delivers_shown : (l : ℕ) (ps : List Letter) (n : ℕ) (memory : List ℕ) (q : Option Letter)
        → ((p : Letter) → q ≡ Some p → Part p.content all × ((parcel_group z.kinds (letter_bytes z p) ≡ complete (book z p.content) p.from (record_count (book z p.content)))))
        → delivered z.kinds (shown z r x) (shown_link z l ps) n memory (mapped (letter_bytes z) q) ≡ turn_each z r l (delivers z r x ps n memory q)
    delivers_shown l ps n memory None h = refl
    delivers_shown l ps n memory (Some p) h =
        let a = h p refl in
        let e = book_union z all sane x.seen p.content o.part a.0 in
        unless_same (turn_each z r l) (room_fault (letter_bytes z p) memory) _ (refuse (x, ps) memory []) (takes z r x ps n memory p (judges z r x p)) _ _ refl (λ e. refl)
        (λ _. ap (unpacked z.kinds (shown z r x) (shown_link z l ps) n (letter_bytes z p) memory) a.1
        ∙ ap (settled z.kinds (shown z r x) (shown_link z l ps) n (letter_bytes z p) memory (book z p.content) p.from) (judges_shown p e)
        ∙ takes_shown l ps n memory p (judges z r x p) e)

    -- edit

    notes_shown : (d : Edits) (output : List ℕ) → book z (x.seen ++ d) ≡ joined z.kinds (book z x.seen) (book z d)
        → let bytes = written (book z d) (next_origin r x.step) in entered z.kinds (shown z r x) (book z d) bytes output ≡ turn_past z r (notes z r x d bytes output)
    notes_shown d output e =
        let bytes = written (book z d) (next_origin r x.step) in
        unless_same (turn_past z r) (append_refusal (z.deltas r) (kept_bytes z r x.forgotten x.kept) bytes) _ (refuse x (in_front bytes output) []) (turn (grown x d x.heard) (in_front bytes output) [] (wrote (length bytes))) _ _ refl (λ e. refl)
        (λ _ i. record { answer = wrote (length bytes); after = grown_shown d x.heard e i; memory = in_front bytes output; work = [] })

    pub enters_shown : (dd : List Deed) (caps output : List ℕ) → let d = made r x dd ∷ [] in
        joined_all z.kinds (map group_of dd) ≡ book z d → joinings_fault z.kinds caps empty (map group_of dd) ≡ doing_fault z caps [] [] dd → book z (x.seen ++ d) ≡ joined z.kinds (book z x.seen) (book z d)
        → joined_up z.kinds (shown z r x) (map group_of dd) caps output ≡ turn_past z r (enters z r x dd caps output)
    enters_shown dd caps output g j e =
        let d = made r x dd ∷ [] in
        let bytes = written (book z d) (next_origin r x.step) in
        let F = λ (t : Option Refusal) (g : Group).
        let b = written g (next_origin r x.step) in
        unless {A = Turn Replica} (first_of t (first_of (book_fault z.kinds (z.capacities r) (joined z.kinds (book z x.seen) g)) (short_fault b output))) (refuse (shown z r x) output []) (entered z.kinds (shown z r x) g b output) in
        ap₂ F j g
        ∙ unless_same (turn_past z r) (first_of (doing_fault z caps [] [] dd) (first_of (book_fault z.kinds (z.capacities r) (book z (x.seen ++ d))) (short_fault bytes output))) _ (refuse x output []) (notes z r x d bytes output) _ _
        (ap (λ b. first_of (doing_fault z caps [] [] dd) (first_of (book_fault z.kinds (z.capacities r) b) (short_fault bytes output))) (sym e)) (λ t. refl) (λ t. notes_shown d output e)
