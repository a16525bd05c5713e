-- The calls keep a replica sound.
use Rattle.std.proofs.Common.{◌≡◌, ℕ, zero, suc, ◌+◌, ◌-◌, ◌*◌, ◌/◌, ◌<◌, ◌≤◌, Bool, true, false, cond, ◌&&◌, eqb, ltb, leb, List, [], ◌∷◌, ◌++◌, map, length, take, drop, Some, None, fold, filter, Option, sym, refl, ap, ◌∙◌, subst, ⊎_elim, arith, length-append, length-drop}
use Rattle.std.proofs.lemmas.List.{length-set}
use Rattle.std.proofs.lemmas.Bool.{and_from, and_parts, le-leb, leb-false, ltb-false, eqb-true, cond_both}
use Rattle.std.specs.List.{slice_get, AllByRecursion}
use Rattle.refusals.specs.declared.Refusal.{Refusal}
use Rattle.causal.specs.declared.dots.Dot.{Dot}
use Rattle.causal.specs.declared.places.Place.{Place}
use Rattle.causal.specs.Dots.{is_dot, is_replica, is_counter, last_counter, last_replica}
use Rattle.causal.specs.Places.{is_place}
use Rattle.kinds.specs.Kinds.{ValueKind}
use Rattle.contexts.specs.Contexts.{most_runs, too_many}
use Rattle.causal.specs.Runs.{highest}
use Rattle.causal.proofs.RunFacts.{canonical_test}
use Rattle.shelves.specs.Parcels.{append_refusal}
use Rattle.stores.specs.Faults.{part_full}
use Rattle.stores.specs.Items.{Item, Ascends, Apart, find}
use Rattle.stores.specs.Puts.{is_address, fits_part, first_of}
use Rattle.stores.specs.Sound.{FewParts, Proper}
use Rattle.groups.specs.Groups.{Group, empty, Known, Formed, joined, joined_all}
use Rattle.stores.proofs.Lookups.{found_all}
use Rattle.groups.proofs.Keeps.{Recodes, all_found}
use Rattle.groups.proofs.Meets.{codes_fit}
use Rattle.groups.proofs.Joins.{joined_formed, empty_formed, onto_formed}
use Rattle.groups.proofs.Converges.{joined_from}
use Rattle.records.specs.declared.record.Origin.{Origin}
use Rattle.reading.specs.Faults.{trailing_records}
use Rattle.reading.specs.Reading.{dots_of, Reading, faulty, complete, first_group, alone, parcel_group}
use Rattle.reading.specs.SpellingLaws.{Bytes, OneSpelling}
use Rattle.records.specs.Written.{written, Narrow, Writable, short_fault, in_front}
use Rattle.groups.proofs.Limits.{overfull_none}
use Rattle.groups.specs.Limits.{work_full, too_many_runs, overfull, joining_fault, book_fault, clash_fault}
use Rattle.refusals.specs.Table.{refuse_if}
use Rattle.calls.specs.Faults.{used_up, not_kept, gap, own_parcel}
use Rattle.calls.specs.Holdings.{Shelf, Replica, Work, heard_of, hearing, wrote, accepted, Turn, turn, refuse, unless}
use Rattle.calls.specs.Steps.{step_fault, last_step, next_origin}
use Rattle.calls.specs.Actions.{Action, set as set_action, clear, amend, has_key, actions, code_fault, Deed, is_at, lies_under, standing, next_dot, amended, deed, deed_fault, runs_for, group_of}
use Rattle.calls.specs.Edits.{deeds, deeds_fault, joinings_fault, stepped, unread_fault, undone_fault, unjoined_fault, entered, joined_up, carried_out, edit}
use Rattle.calls.specs.Arrivals.{rewritten, arrival_fault, taken_in, Verdict, turned_away, is_old, is_fresh, verdict, room_fault, settled, unpacked, delivered, absorbs, looked_at}
use Rattle.calls.specs.Reads.{forget, without_steps}
use Rattle.calls.proofs.Keeping.{unless_cases, none_parts, not_if}
use Rattle.history.specs.Sets.{◌∈◌}
use Rattle.history.specs.Sound.{GroupUnder, StepsAfter, SoundReplica, CallsKeepSound}
use Rattle.history.proofs.Members.{in_left, all_at, all_from, all_both, in_kept, in_map, map_in, among_in, kept_ascends, kept_apart}
use Rattle.history.proofs.Books.{Dotted, runs_canonical, has_runs}
use Rattle.history.proofs.Histories.{proper_dot}
use Rattle.history.proofs.Actions.{Read, Coded, actions_read, coded}
use Rattle.history.proofs.Deeds.{amended_ascends, amended_apart}

-- the groups of actions

module _ (ks : List ValueKind) where
  puts_dotted : (ps : List Item) → AllByRecursion (Proper ks) ps → Dotted (dots_of ps)
  puts_dotted ps p = all_from (λ d. is_dot d ≡ true) (dots_of ps) (λ d m. let i = in_map (λ (x : Item). x.dot) ps d m in ap is_dot i.2 ∙ proper_dot ks i.0 (all_at (Proper ks) ps i.0 p i.1))

  group_formed : (d : Deed) → Ascends d.puts → Apart d.puts → AllByRecursion (Proper ks) d.puts → Dotted d.strikes → Formed ks (group_of d)
  group_formed d up apart proper struck =
      let all = all_both (λ e. is_dot e ≡ true) (dots_of d.puts) d.strikes (puts_dotted d.puts proper) struck in
      record {
        one_form = canonical_test _ (runs_canonical (dots_of d.puts ++ d.strikes) all);
        ascends = up;
        apart = apart;
        proper = proper;
        known = all_from (Known (runs_for (dots_of d.puts ++ d.strikes))) d.puts (λ x m. has_runs (dots_of d.puts ++ d.strikes) x.dot all ∙ among_in (dots_of d.puts ++ d.strikes) x.dot (in_left x.dot (dots_of d.puts) d.strikes (map_in (λ (v : Item). v.dot) d.puts x m)));
      }

  joined_narrow : (g h : Group) → Formed ks g → Formed ks h → AllByRecursion Narrow g.items → AllByRecursion Narrow h.items → AllByRecursion Narrow (joined ks g h).items
  joined_narrow g h fg fh ng nh = all_found Narrow (joined ks g h).items (joined_formed ks g h fg fh).apart each
    where
      recoded : (y x : Item) → Recodes y x → Narrow y → Narrow x
      recoded y x e n = subst Narrow (sym e) (record { part = n.part; first = n.first; second = n.second; third = n.third; fourth = n.fourth })

      each : (d : Dot) (x : Item) → find d (joined ks g h).items ≡ Some x → Narrow x
      each d x e = let w = joined_from ks g h fg fh d x e in recoded w.0 x w.2 (⊎_elim (λ p. found_all Narrow d g.items w.0 ng p) (λ p. found_all Narrow d h.items w.0 nh p) w.1)

  onto_narrow : (g : Group) (hs : List Group) → Formed ks g → AllByRecursion Narrow g.items → AllByRecursion (Formed ks) hs → AllByRecursion (λ (h : Group). AllByRecursion Narrow h.items) hs → AllByRecursion Narrow (fold (joined ks) g hs).items
  onto_narrow g [] fg ng fs ns = ng
  onto_narrow g (h ∷ hs) fg ng fs ns = onto_narrow (joined ks g h) hs (joined_formed ks g h fg fs.0) (joined_narrow g h fg fs.0 ng ns.0) fs.1 ns.1

  module _ (few : FewParts ks) (r : ℕ) (checked : is_replica r ≡ true) where
    module _ (b : Group) (fb : Formed ks b) (nb : AllByRecursion Narrow b.items) where
      struck_dotted : (t : Item → Bool) → Dotted (dots_of (filter t b.items))
      struck_dotted t = all_from (λ d. is_dot d ≡ true) (dots_of (filter t b.items)) (λ d m.
          let i = in_map (λ (x : Item). x.dot) (filter t b.items) d m in
          ap is_dot i.2 ∙ proper_dot ks i.0 (all_at (Proper ks) b.items i.0 fb.proper (in_kept t b.items i.0 i.1).0))

      address : (l : Place) (d : Dot) → (is_place l && has_key l) ≡ true → is_dot d ≡ true → is_address l d ≡ true
      address l d p e = and_from (is_place l && has_key l) (is_dot d) p e

      new_dot : (n : ℕ) → refuse_if (leb last_counter (highest r b.runs)) (used_up n) ≡ None → is_dot (next_dot r b) ≡ true
      new_dot n e =
          let h = leb-false last_counter (highest r b.runs) (not_if (leb last_counter (highest r b.runs)) (used_up n) e) in
          let c = highest r b.runs + 1 in
          let l : 1 ≤ c = omega arith in
          let m : c ≤ last_counter = omega arith in
          and_from (is_replica r) (is_counter c) checked (and_from (leb 1 c) (leb c last_counter) (le-leb 1 c l) (le-leb c last_counter m))

      deed_sound : (n : ℕ) (a : Action) → Read ks a → Coded ks a → deed_fault r n a b ≡ None → Formed ks (group_of (deed ks r a b)) × AllByRecursion Narrow (deed ks r a b).puts
      deed_sound n (set_action p l c) q f e =
          let x : Item = record { part = p; place = l; dot = next_dot r b; code = c } in
          let proper : Proper ks x = record { placed = q.part; address = address l (next_dot r b) q.place (new_dot n e); fits = f } in
          let i = q.part in
          let j = few.few in
          let thin : Narrow x = record { part = omega arith; first = q.keys.first; second = q.keys.second; third = q.keys.third; fourth = q.keys.fourth } in
          (group_formed (deed ks r (set_action p l c) b) (tt, tt) (tt, tt) (proper, tt) (struck_dotted (is_at p l)), (thin, tt))
      deed_sound n (clear p l) q f e = (group_formed (deed ks r (clear p l) b) tt tt tt (struck_dotted (lies_under p l)), tt)
      deed_sound n (amend p l c) q f e = (
        group_formed (deed ks r (amend p l c) b) (amended_ascends ks c (standing b p l) (kept_ascends (is_at p l) b.items fb.ascends)) (amended_apart ks c (standing b p l) (kept_apart (is_at p l) b.items fb.apart)) proper tt,
        all_from Narrow (map (amended ks c) (standing b p l)) (λ w m. let i = back w m in subst Narrow (sym i.2) (thin i.0 (all_at Narrow b.items i.0 nb i.1.0))),
      )
        where
          back : (w : Item) → w ∈ map (amended ks c) (standing b p l) → (x : Item) × ((x ∈ b.items) × (is_at p l x ≡ true)) × (w ≡ amended ks c x)
          back w m = let i = in_map (amended ks c) (standing b p l) w m in (i.0, in_kept (is_at p l) b.items i.0 i.1, i.2)

          thin : (x : Item) → Narrow x → Narrow (amended ks c x)
          thin x k = record { part = k.part; first = k.first; second = k.second; third = k.third; fourth = k.fourth }

          good : (x : Item) → (x ∈ b.items) × (is_at p l x ≡ true) → Proper ks (amended ks c x)
          good x m =
              let k = all_at (Proper ks) b.items x fb.proper m.0 in
              let s = eqb-true x.part p (and_parts (eqb x.part p) _ m.1).0 in
              record { placed = k.placed; address = k.address; fits = codes_fit (slice_get ks x.part) x.code c k.fits (ap (λ v. fits_part ks v c) s ∙ f) }

          proper : AllByRecursion (Proper ks) (map (amended ks c) (standing b p l))
          proper = all_from (Proper ks) (map (amended ks c) (standing b p l)) (λ w m. let i = back w m in subst (Proper ks) (sym i.2) (good i.0 i.1))

    deeds_sound : (acts : List Action) (n : ℕ) (b : Group) → Formed ks b → AllByRecursion Narrow b.items → AllByRecursion (Read ks) acts → AllByRecursion (Coded ks) acts → deeds_fault ks r n acts b ≡ None
        → AllByRecursion (Formed ks) (map group_of (deeds ks r acts b)) × AllByRecursion (λ (h : Group). AllByRecursion Narrow h.items) (map group_of (deeds ks r acts b))
    deeds_sound [] n b fb nb rs cs e = (tt, tt)
    deeds_sound (a ∷ acts) n b fb nb rs cs e =
        let d = deed ks r a b in
        let p = none_parts (deed_fault r n a b) (deeds_fault ks r (suc n) acts (joined ks b (group_of d))) e in
        let s = deed_sound b fb nb n a rs.0 cs.0 p.0 in
        let i = deeds_sound acts (suc n) (joined ks b (group_of d)) (joined_formed ks b (group_of d) fb s.0) (joined_narrow b (group_of d) fb s.0 nb s.1) rs.1 cs.1 p.1 in
        ((s.0, i.0), (s.1, i.1))

-- one more step

few_from : (g : Group) (w : ℕ) → refuse_if (too_many g.runs) (too_many_runs w) ≡ None → length g.runs ≤ most_runs
few_from g w e = ltb-false most_runs (length g.runs) (not_if (too_many g.runs) (too_many_runs w) e)

joinings_few : (ks : List ValueKind) (caps : List ℕ) (g : Group) (hs : List Group) → joinings_fault ks caps g hs ≡ None → length g.runs ≤ most_runs → length (fold (joined ks) g hs).runs ≤ most_runs
joinings_few ks caps g [] e l = l
joinings_few ks caps g (h ∷ hs) e l =
    let p = none_parts (joining_fault ks caps (joined ks g h)) (joinings_fault ks caps (joined ks g h) hs) e in
    joinings_few ks caps (joined ks g h) hs p.1 (few_from (joined ks g h) 0 (none_parts (overfull work_full caps (joined ks g h).items 0 (length ks)) _ p.0).1)

steps_push : (ks : List ValueKind) (r n : ℕ) (ps : List (List ℕ)) (p : List ℕ) → StepsAfter ks r n ps → GroupUnder ks (next_origin r (n + length ps)) p → StepsAfter ks r n (ps ++ p ∷ [])
steps_push ks r n [] p s g = (subst (λ k. GroupUnder ks (next_origin r k) p) (omega arith) g, tt)
steps_push ks r n (q ∷ ps) p s g = (s.0, steps_push ks r (n + 1) ps p s.1 (subst (λ k. GroupUnder ks (next_origin r k) p) (omega arith) g))

steps_drop : (ks : List ValueKind) (r n k : ℕ) (ps : List (List ℕ)) → StepsAfter ks r n ps → StepsAfter ks r (n + k) (drop k ps)
steps_drop ks r n zero ps s = subst (λ j. StepsAfter ks r j ps) (omega arith) s
steps_drop ks r n (suc k) [] s = tt
steps_drop ks r n (suc k) (p ∷ ps) s = subst (λ j. StepsAfter ks r j (drop k ps)) (omega arith) (steps_drop ks r (n + 1) k ps s.1)

module _ (ks : List ValueKind) (x : Replica) (s : SoundReplica ks x) where
  pub stepped_sound : (g : Group) (heard : List ℕ) → Formed ks g → AllByRecursion Narrow g.items → length g.runs ≤ most_runs → x.step < last_step → book_fault ks x.capacities (joined ks x.book g) ≡ None → length heard ≡ last_replica
      → SoundReplica ks (stepped ks x g heard)
  stepped_sound g heard fg ng few room fault sixteen =
      let b = joined ks x.book g in
      let p = none_parts (overfull part_full x.capacities b.items 0 (length ks)) (refuse_if (too_many b.runs) (too_many_runs 1)) fault in
      let o = next_origin x.number x.step in
      record {
        number = s.number;
        formed = joined_formed ks x.book g s.formed fg;
        narrow = joined_narrow ks x.book g s.formed fg s.narrow ng;
        few = few_from b 1 p.1;
        room = λ q l. overfull_none part_full x.capacities b.items 0 (length ks) p.0 q (omega arith) (omega arith);
        kept = steps_push ks x.number x.forgotten x.deltas.parcels (written g o) s.kept (subst (λ n. GroupUnder ks (next_origin x.number n) (written g o)) (sym s.counted)
            (record { group = g; formed = fg; writable = record { few = few; narrow = ng; origin = and_from (is_replica x.number) (leb x.step (x.step + 1)) s.number (le-leb x.step (x.step + 1) (omega arith)); until_fits = omega arith }; bytes = refl }));
        counted = let a = length-append x.deltas.parcels (written g o ∷ []) in let c = s.counted in omega arith;
        limit = omega arith;
        sixteen = sixteen;
      }

  -- edit

  module _ (few : FewParts ks) where
    edit_sound : (pen : ℕ) (bytes : List ℕ) (work : Work) (output : List ℕ) → Bytes bytes → SoundReplica ks (edit ks x pen bytes work output).after
    edit_sound pen bytes work output small =
        let acts = actions ks bytes in
        let P = λ (t : Turn Replica). SoundReplica ks t.after in
        unless_cases (unread_fault ks x.number pen bytes) (refuse x output work.items) (carried_out ks x acts work.capacities output) P (λ f e. s)
        (λ _. unless_cases (undone_fault ks x acts) (refuse x output []) (joined_up ks x (map group_of (deeds ks x.number acts x.book)) work.capacities output) P (λ f e. s) (λ e. done acts (actions_read ks bytes small) e work.capacities output))
      where
        done : (acts : List Action) → AllByRecursion (Read ks) acts → undone_fault ks x acts ≡ None → (caps output : List ℕ) → SoundReplica ks (joined_up ks x (map group_of (deeds ks x.number acts x.book)) caps output).after
        done acts rs e caps output =
            let gs = map group_of (deeds ks x.number acts x.book) in
            let g = joined_all ks gs in
            let bytes = written g (next_origin x.number x.step) in
            let P = λ (t : Turn Replica). SoundReplica ks t.after in
            let stepping = step_fault x.step (length acts) in
            let a = none_parts (code_fault ks 0 acts) (first_of (deeds_fault ks x.number 0 acts x.book) stepping) e in
            let b = none_parts (deeds_fault ks x.number 0 acts x.book) stepping a.1 in
            let d = deeds_sound ks few x.number s.number acts 0 x.book s.formed s.narrow rs (coded ks 0 acts a.0) b.0 in
            let judged = book_fault ks x.capacities (joined ks x.book g) in
            unless_cases (unjoined_fault ks x gs caps bytes output) (refuse x output []) (entered ks x g bytes output) P (λ f e. s)
            (λ u. unless_cases (append_refusal x.deltas.sizes x.deltas.parcels bytes) (refuse x (in_front bytes output) []) (turn (stepped ks x g x.heard) (in_front bytes output) [] (wrote (length bytes))) P (λ f e. s)
            (λ _. let c = none_parts (joinings_fault ks caps empty gs) (first_of judged (short_fault bytes output)) u in
            stepped_sound g x.heard (onto_formed ks empty gs (empty_formed ks) d.0) (onto_narrow ks empty gs (empty_formed ks) tt d.0 d.1) (joinings_few ks caps empty gs c.0 (omega arith))
            (leb-false last_step x.step (not_if (leb last_step x.step) (used_up (length acts)) b.1)) (none_parts judged (short_fault bytes output) c.1).0 s.sixteen))

  -- deliver and absorb

  module _ (one : OneSpelling ks) where
    fresh_sound : (g : Group) (o : Origin) → Formed ks g → Writable g o → arrival_fault ks x g o ≡ None → SoundReplica ks (taken_in ks x g o)
    fresh_sound g o fg w e =
        let h = heard_of x.heard o.sender in
        let shelf = append_refusal x.deltas.sizes x.deltas.parcels (rewritten x g) in
        let judged = book_fault ks x.capacities (joined ks x.book g) in
        let clash = clash_fault x.book.items 0 g.items in
        let a = none_parts (refuse_if (ltb h o.since) (gap h)) (first_of (step_fault x.step 0) (first_of clash (first_of judged shelf))) e in
        let b = none_parts (step_fault x.step 0) (first_of clash (first_of judged shelf)) a.1 in
        let c = none_parts clash (first_of judged shelf) b.1 in
        stepped_sound g (hearing x.heard o.sender o.until) fg w.narrow w.few (leb-false last_step x.step (not_if (leb last_step x.step) (used_up 0) b.0)) (none_parts judged shelf c.1).0
        (length-set x.heard (o.sender - 1) o.until ∙ s.sixteen)

    abbrev judged_by : Group → Origin → (Verdict → Type 0) → Type 0
    judged_by g o P = ((f : Refusal) → P (turned_away f)) → P is_old → (arrival_fault ks x g o ≡ None → P is_fresh) → P (verdict ks x g o)

    by_verdict : (g : Group) (o : Origin) (P : Verdict → Type 0) → judged_by g o P
    by_verdict g o P t k f =
        let own = refuse_if (eqb o.sender x.number) (own_parcel o.sender) in
        let late = unless (arrival_fault ks x g o) turned_away is_fresh in
        let known = leb o.until (heard_of x.heard o.sender) in
        unless_cases own turned_away (cond known is_old late) P (λ g _. t g) (λ _. cond_both known is_old late P (λ _. k) (λ _. unless_cases (arrival_fault ks x g o) turned_away is_fresh P (λ g _. t g) f))

    module _ (link : Shelf) (position : ℕ) (memory : List ℕ) where
      alone_complete : (all : ℕ) (r : Reading) (g : Group) (o : Origin) (n : ℕ) → alone all r ≡ complete g o n → r ≡ complete g o n
      alone_complete all (faulty f) g o n e = e
      alone_complete all (complete h p k) g o n e = go (ltb k all) e
        where
          go : (b : Bool) → cond b (faulty (trailing_records k)) (complete h p k) ≡ complete g o n → complete h p k ≡ complete g o n
          go true e = let z : ◌≡◌ {A = ℕ} 0 1 = cc in absurd (omega arith)
          go false e = e

      unpacked_sound : (parcel : List ℕ) → Bytes parcel → (r : Reading) → parcel_group ks parcel ≡ r → SoundReplica ks (unpacked ks x link position parcel memory r).after.0
      unpacked_sound parcel small (faulty f) e = s
      unpacked_sound parcel small (complete g o n) e =
          let q = alone_complete (length parcel / 24) (first_group ks parcel) g o n e in
          by_verdict g o (λ v. SoundReplica ks (settled ks x link position parcel memory g o v).after.0) (λ f. s) s (λ a. fresh_sound g o (one.formed parcel g o n small q) (one.writable parcel g o n small q) a)

      delivered_sound : (q : Option (List ℕ)) → ((parcel : List ℕ) → q ≡ Some parcel → Bytes parcel) → SoundReplica ks (delivered ks x link position memory q).after.0
      delivered_sound None h = s
      delivered_sound (Some parcel) h =
          unless_cases (room_fault parcel memory) (refuse (x, link) memory []) (unpacked ks x link position parcel memory (parcel_group ks parcel)) (λ (t : Turn (Replica × Shelf)). SoundReplica ks t.after.0) (λ f e. s)
          (λ _. unpacked_sound parcel (h parcel refl) (parcel_group ks parcel) refl)

    looked_sound : (journal memory : List ℕ) → Bytes journal → (r : Reading) → first_group ks journal ≡ r → SoundReplica ks (looked_at ks x journal memory r).after
    looked_sound journal memory small (faulty f) e = s
    looked_sound journal memory small (complete g o n) e =
        let first = take (24 * n) journal in
        unless_cases (room_fault first memory) (refuse x memory []) (absorbs ks x first memory g o (verdict ks x g o)) (λ (t : Turn Replica). SoundReplica ks t.after) (λ f e. s)
        (λ _. by_verdict g o (λ v. SoundReplica ks (absorbs ks x first memory g o v).after) (λ f. s) s (λ a. fresh_sound g o (one.formed journal g o n small e) (one.writable journal g o n small e) a))

  forget_sound : (t : ℕ) → SoundReplica ks (forget x t).after
  forget_sound t =
      unless_cases (refuse_if (ltb x.step t) (not_kept x.forgotten)) (refuse x [] []) (turn (without_steps x t) [] [] accepted) (λ (u : Turn Replica). SoundReplica ks u.after) (λ f e. s)
      (λ e. let l = ltb-false x.step t (not_if (ltb x.step t) (not_kept x.forgotten) e) in
      record {
        number = s.number;
        formed = s.formed;
        narrow = s.narrow;
        few = s.few;
        room = s.room;
        kept = subst (λ n. StepsAfter ks x.number n (drop (t - x.forgotten) x.deltas.parcels)) (omega arith) (steps_drop ks x.number x.forgotten (t - x.forgotten) x.deltas.parcels s.kept);
        counted = let a = length-drop (t - x.forgotten) x.deltas.parcels in let c = s.counted in omega arith;
        limit = s.limit;
        sixteen = s.sixteen;
      })

pub calls_keep_sound : (ks : List ValueKind) → FewParts ks → OneSpelling ks → CallsKeepSound ks
calls_keep_sound ks few one = record {
  opened = λ r caps sizes c. record { number = c; formed = empty_formed ks; narrow = tt; few = omega arith; room = λ p l. omega arith; kept = tt; counted = refl; limit = omega arith; sixteen = refl };
  edits = λ x pen bytes work output s b. edit_sound ks x s few pen bytes work output b;
  delivers = λ x link position memory s h. delivered_sound ks x s one link position memory (slice_get link.parcels position) h;
  absorbs = λ x journal memory s b. looked_sound ks x s one journal memory b (first_group ks journal) refl;
  forgets = λ x t s. forget_sound ks x s t;
}
