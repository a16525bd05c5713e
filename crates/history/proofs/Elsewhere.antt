-- In a run no dot stands at two places, and so no parcel is turned away for that.
use Rattle.std.proofs.Common.{◌≡◌, ℕ, suc, ◌-◌, ◌/◌, false, cond, not, ◌||◌, eqb, ltb, leb, ◌⊎◌, List, [], ◌∷◌, ◌++◌, map, length, drop, Some, None, Option, sym, refl, ap, ◌∙◌, subst, inl, inr, arith}
use Rattle.std.proofs.lemmas.Bool.{cond_both, and_from, eq-eqb}
use Rattle.std.specs.List.{slice_get}
use Rattle.refusals.specs.declared.Refusal.{Refusal}
use Rattle.causal.specs.declared.dots.Dot.{Dot}
use Rattle.causal.specs.Places.{same_place}
use Rattle.causal.proofs.OrderLaws.{places_total}
use Rattle.shelves.specs.declared.fault.ShelfFault.TheVariants.{NoParcel, MemoryShort}
use Rattle.shelves.specs.Parcels.{Sizes, shelf_fault, append_refusal}
use Rattle.stores.specs.Faults.{part_full, bad_address}
use Rattle.stores.specs.Items.{Item, find}
use Rattle.stores.specs.Puts.{first_of}
use Rattle.groups.specs.Groups.{Group}
use Rattle.reading.specs.Faults.{bad_code}
use Rattle.records.specs.Written.{written, too_short, short_fault, in_front}
use Rattle.groups.specs.Limits.{too_many_runs, work_full, stands_elsewhere, joining_fault, book_fault, is_elsewhere, clash_fault}
use Rattle.refusals.specs.Table.{refuse_if}
use Rattle.calls.specs.Faults.{own_parcel, gap, bad_action, nothing_there, used_up, not_kept, other_pen}
use Rattle.calls.specs.Holdings.{Work, heard_of, refusal, wrote, fresh, old, accepted, counted, Turn, turn, refuse, unless}
use Rattle.calls.specs.Steps.{step_fault, next_origin, origin}
use Rattle.calls.specs.Actions.{Action, actions, is_list, readings, first_bad, reading_fault, code_fault, Deed, deed, deed_fault, standing}
use Rattle.calls.specs.Edits.{unread_fault}
use Rattle.calls.specs.Arrivals.{room_fault, Verdict, turned_away, is_old, is_fresh}
use Rattle.calls.specs.Reads.{is_readable, codes, shown_at}
use Rattle.calls.proofs.Keeping.{unless_cases, Says, says_none, says_first, says_if, says_bad, says_codes, says_deed, says_joining, says_book, append_says, fault_same, not_wrote, not_arrived, not_accepted, not_counted}
use Rattle.history.specs.Sets.{◌∈◌}
use Rattle.history.specs.Books.{book_of}
use Rattle.history.specs.Worlds as worlds
use Rattle.history.specs.Worlds.{Number, Setting, Call}
use Rattle.history.specs.History.{Edits, Past, Letter, put_by, struck_by, all_of, grown, made, book, letter_bytes, kept_bytes, planned, planned_fault, doing_fault, notes, enters, carries_out, edits, uniting_fault, posts, collects, ships, ships_whole, takes_fault, judges, takes, delivers, loses, repeats, forgets, Machine, tells}
use Rattle.history.proofs.Members.{in_nth}
use Rattle.history.proofs.Histories.{Part, level, book_formed}
use Rattle.history.proofs.Deeds.{in_find}
use Rattle.history.proofs.Invariants.{LetterOk, Inv, seen_part}

-- not the refusal of a dot that stands elsewhere
abbrev Other : Refusal → Type 0
Other f = f.number ≡ 44 → ⊥

other : (f : Refusal) (n : ℕ) → f.number ≡ n → (n ≡ 44 → ⊥) → Other f
other f n e a u = a (sym e ∙ u)

append_other : (z : Sizes) (ps : List (List ℕ)) (p : List ℕ) → Says Other (append_refusal z ps p)
append_other z ps p f e = go (append_says z ps p f e).1
  where
    go : (f.number ≡ 13) ⊎ (f.number ≡ 14) → Other f
    go (inl a) u = omega arith
    go (inr a) u = omega arith

abbrev pub Quiet : {A : Type 0} → Turn A → Type 0
Quiet t = (f : Refusal) → t.answer ≡ refusal f → Other f

refused_quiet : {A : Type 0} (a : A) (memory : List ℕ) (work : List Item) (f : Refusal) → Other f → Quiet (refuse a memory work f)
refused_quiet a memory work f o g e = subst Other (fault_same f g e) o

room_other : (bytes memory : List ℕ) → Says Other (room_fault bytes memory)
room_other bytes memory = says_if Other (ltb (length memory) (length bytes)) (shelf_fault (MemoryShort (length bytes))) (other (shelf_fault (MemoryShort (length bytes))) 12 refl (λ e. omega arith))

short_other : (bytes memory : List ℕ) → Says Other (short_fault bytes memory)
short_other bytes memory = says_if Other (ltb (length memory) (length bytes)) (too_short (length bytes)) (other (too_short (length bytes)) 41 refl (λ e. omega arith))

module _ (z : Setting) where
  joining_other : (caps : List ℕ) (g : Group) → Says Other (joining_fault z.kinds caps g)
  joining_other caps g = says_joining Other (λ p. other (work_full p) 40 refl (λ e. omega arith)) (other (too_many_runs 0) 34 refl (λ e. omega arith)) z.kinds caps g

  book_other : (caps : List ℕ) (g : Group) → Says Other (book_fault z.kinds caps g)
  book_other caps g = says_book Other (λ p. other (part_full p) 33 refl (λ e. omega arith)) (other (too_many_runs 1) 34 refl (λ e. omega arith)) z.kinds caps g

  step_other : (s n : ℕ) → Says Other (step_fault s n)
  step_other s n = says_if Other _ (used_up n) (other (used_up n) 37 refl (λ e. omega arith))

  planned_other : (r n : ℕ) (acts : List Action) (ps : List Item) (ss : List Dot) → Says Other (planned_fault z r n acts ps ss)
  planned_other r n [] ps ss = says_none Other
  planned_other r n (a ∷ acts) ps ss =
      let b = book_of z.kinds ps ss in
      let d = deed z.kinds r a b in
      says_first Other (deed_fault r n a b) (planned_fault z r (suc n) acts (ps ++ d.puts) (ss ++ d.strikes)) (says_deed Other (λ n. other (used_up n) 37 refl (λ e. omega arith)) (λ n. other (nothing_there n) 36 refl (λ e. omega arith)) r n a b) (planned_other r (suc n) acts (ps ++ d.puts) (ss ++ d.strikes))

  doing_other : (caps : List ℕ) (ps : List Item) (ss : List Dot) (ds : List Deed) → Says Other (doing_fault z caps ps ss ds)
  doing_other caps ps ss [] = says_none Other
  doing_other caps ps ss (d ∷ ds) = says_first Other (joining_fault z.kinds caps (book_of z.kinds (ps ++ d.puts) (ss ++ d.strikes))) _ (joining_other caps (book_of z.kinds (ps ++ d.puts) (ss ++ d.strikes))) (doing_other caps (ps ++ d.puts) (ss ++ d.strikes) ds)

  uniting_other : (caps : List ℕ) (es : Edits) (ds : List Edits) → Says Other (uniting_fault z caps es ds)
  uniting_other caps es [] = says_none Other
  uniting_other caps es (d ∷ ds) = says_first Other (joining_fault z.kinds caps (book z (es ++ d))) _ (joining_other caps (book z (es ++ d))) (uniting_other caps (es ++ d) ds)

  unread_other : (n pen : ℕ) (bytes : List ℕ) → Says Other (unread_fault z.kinds n pen bytes)
  unread_other n pen bytes =
      says_first Other (refuse_if (not (eqb pen n)) (other_pen pen)) (reading_fault z.kinds bytes) (says_if Other (not (eqb pen n)) (other_pen pen) (other (other_pen pen) 39 refl (λ e. omega arith)))
      (says_first Other (refuse_if (not (is_list (length bytes))) (bad_action (length bytes / 24))) (first_bad 0 (readings z.kinds bytes)) (says_if Other (not (is_list (length bytes))) (bad_action (length bytes / 24)) (other (bad_action (length bytes / 24)) 35 refl (λ e. omega arith))) (says_bad Other (λ k. other (bad_action k) 35 refl (λ e. omega arith)) 0 (readings z.kinds bytes)))

  notes_quiet : (r : ℕ) (x : Past) (d : Edits) (bytes output : List ℕ) → Quiet (notes z r x d bytes output)
  notes_quiet r x d bytes output =
      unless_cases (append_refusal (z.deltas r) (kept_bytes z r x.forgotten x.kept) bytes) (refuse x (in_front bytes output) []) (turn (grown x d x.heard) (in_front bytes output) [] (wrote (length bytes))) Quiet
      (λ f e. refused_quiet x (in_front bytes output) [] f (append_other (z.deltas r) (kept_bytes z r x.forgotten x.kept) bytes f e)) (λ _ f e. absurd (not_wrote (length bytes) f e))

  enters_quiet : (r : ℕ) (x : Past) (ds : List Deed) (caps output : List ℕ) → Quiet (enters z r x ds caps output)
  enters_quiet r x ds caps output =
      let d = made r x ds ∷ [] in
      let bytes = written (book z d) (next_origin r x.step) in
      let judged = book_fault z.kinds (z.capacities r) (book z (x.seen ++ d)) in
      unless_cases (first_of (doing_fault z caps [] [] ds) (first_of judged (short_fault bytes output))) (refuse x output []) (notes z r x d bytes output) Quiet
      (λ f e. refused_quiet x output [] f (says_first Other (doing_fault z caps [] [] ds) (first_of judged (short_fault bytes output)) (doing_other caps [] [] ds) (says_first Other judged (short_fault bytes output) (book_other (z.capacities r) (book z (x.seen ++ d))) (short_other bytes output)) f e))
      (λ _. notes_quiet r x d bytes output)

  edits_quiet : (r : ℕ) (x : Past) (pen : ℕ) (bytes : List ℕ) (work : Work) (output : List ℕ) → Quiet (edits z r x pen bytes work output)
  edits_quiet r x pen bytes work output =
      let acts = actions z.kinds bytes in
      let planning = planned_fault z r 0 acts (put_by x.seen) (struck_by x.seen) in
      let stepping = step_fault x.step (length acts) in
      unless_cases (unread_fault z.kinds r pen bytes) (refuse x output work.items) (carries_out z r x acts work.capacities output) Quiet (λ f e. refused_quiet x output work.items f (unread_other r pen bytes f e))
      (λ _. unless_cases (first_of (code_fault z.kinds 0 acts) (first_of planning stepping)) (refuse x output []) (enters z r x (planned z r acts (put_by x.seen) (struck_by x.seen)) work.capacities output) Quiet
      (λ f e. refused_quiet x output [] f (says_first Other (code_fault z.kinds 0 acts) (first_of planning stepping) (says_codes Other (λ n. other (bad_code n) 23 refl (λ e. omega arith)) z.kinds 0 acts) (says_first Other planning stepping (planned_other r 0 acts (put_by x.seen) (struck_by x.seen)) (step_other x.step (length acts))) f e))
      (λ _. enters_quiet r x (planned z r acts (put_by x.seen) (struck_by x.seen)) work.capacities output))

  posts_quiet : (l : ℕ) (ps : List Letter) (p : Letter) (output : List ℕ) → Quiet (posts z l ps p output)
  posts_quiet l ps p output =
      unless_cases (append_refusal (z.links l) (map (letter_bytes z) ps) (letter_bytes z p)) (refuse ps (in_front (letter_bytes z p) output) []) (turn (ps ++ p ∷ []) (in_front (letter_bytes z p) output) [] (wrote (length (letter_bytes z p)))) Quiet
      (λ f e. refused_quiet ps (in_front (letter_bytes z p) output) [] f (append_other (z.links l) (map (letter_bytes z) ps) (letter_bytes z p) f e)) (λ _ f e. absurd (not_wrote (length (letter_bytes z p)) f e))

  ships_quiet : (r : ℕ) (x : Past) (since : ℕ) (work : Work) (output : List ℕ) (l : ℕ) (ps : List Letter) → Quiet (ships z r x since work output l ps)
  ships_quiet r x since work output l ps =
      let D = drop (since - x.forgotten) x.kept in
      let p : Letter = record { from = origin r since x.step; content = all_of D } in
      let uniting = uniting_fault z work.capacities [] D in
      unless_cases (refuse_if (ltb x.step since || ltb since x.forgotten) (not_kept x.forgotten)) (refuse ps output work.items) (collects z r x since D work.capacities output l ps) Quiet
      (λ f e. refused_quiet ps output work.items f (says_if Other (ltb x.step since || ltb since x.forgotten) (not_kept x.forgotten) (other (not_kept x.forgotten) 38 refl (λ e. omega arith)) f e))
      (λ _. unless_cases (first_of uniting (short_fault (letter_bytes z p) output)) (refuse ps output []) (posts z l ps p output) Quiet
      (λ f e. refused_quiet ps output [] f (says_first Other uniting (short_fault (letter_bytes z p) output) (uniting_other work.capacities [] D) (short_other (letter_bytes z p) output) f e)) (λ _. posts_quiet l ps p output))

  whole_quiet : (r : ℕ) (x : Past) (output : List ℕ) (l : ℕ) (ps : List Letter) → Quiet (ships_whole z r x output l ps)
  whole_quiet r x output l ps =
      let p : Letter = record { from = origin r 0 x.step; content = x.seen } in
      unless_cases (short_fault (letter_bytes z p) output) (refuse ps output []) (posts z l ps p output) Quiet (λ f e. refused_quiet ps output [] f (short_other (letter_bytes z p) output f e)) (λ _. posts_quiet l ps p output)

  -- deliver: the books of two sets put no dot at two places

  clash_none : (held : List Item) (n : ℕ) (ys : List Item) → ((y : Item) → y ∈ ys → (x : Item) → find y.dot held ≡ Some x → (x.part ≡ y.part) × (x.place ≡ y.place)) → clash_fault held n ys ≡ None
  clash_none held n [] h = refl
  clash_none held n (y ∷ ys) h = ap (λ b. cond b (Some (stands_elsewhere n)) (clash_fault held (suc n) ys)) (at (find y.dot held) (h y (inl refl))) ∙ clash_none held (suc n) ys (λ w m. h w (inr m))
    where
      at : (o : Option Item) → ((x : Item) → o ≡ Some x → (x.part ≡ y.part) × (x.place ≡ y.place)) → is_elsewhere o y ≡ false
      at None k = refl
      at (Some x) k = let a = k x refl in ap not (and_from (eqb x.part y.part) (same_place x.place y.place) (eq-eqb x.part y.part a.0) (ap (same_place x.place) (sym a.1) ∙ places_total.same_self x.place))

  module _ (m : Machine) (v : Inv z m) (r : Number) where
    abbrev n : ℕ
    n = r.value

    abbrev x : Past
    x = m.pasts n

    no_clash : (p : Letter) → LetterOk z v.log p → clash_fault (book z x.seen).items 0 (book z p.content).items ≡ None
    no_clash p o = clash_none (book z x.seen).items 0 (book z p.content).items (λ y i w e. level z v.all v.sane x.seen p.content (v.pasts n).part part y.dot w y e (in_find (book z p.content).items y (book_formed z v.all v.sane p.content part).apart i))
      where
        part : Part p.content v.all
        part e i = (v.pasts p.from.sender).part e (subst (λ l. e ∈ l) (sym (v.pasts p.from.sender).seen) (seen_part (v.log p.from.sender) p.from.until e (o.inside e i)))

    takes_other : (p : Letter) → LetterOk z v.log p → Says Other (takes_fault z n x p)
    takes_other p o =
        let h = heard_of x.heard p.from.sender in
        let shelf = append_refusal (z.deltas n) (kept_bytes z n x.forgotten x.kept) (written (book z p.content) (next_origin n x.step)) in
        let judged = book_fault z.kinds (z.capacities n) (book z (x.seen ++ p.content)) in
        let clash = clash_fault (book z x.seen).items 0 (book z p.content).items in
        says_first Other (refuse_if (ltb h p.from.since) (gap h)) _ (says_if Other (ltb h p.from.since) (gap h) (other (gap h) 32 refl (λ e. omega arith)))
        (says_first Other (step_fault x.step 0) _ (step_other x.step 0)
        (says_first Other clash _ (subst (Says Other) (sym (no_clash p o)) (says_none Other))
        (says_first Other judged shelf (book_other (z.capacities n) (book z (x.seen ++ p.content))) (append_other (z.deltas n) (kept_bytes z n x.forgotten x.kept) (written (book z p.content) (next_origin n x.step))))))

    takes_quiet : (ps : List Letter) (i : ℕ) (memory : List ℕ) (p : Letter) → LetterOk z v.log p → Quiet (takes z n x ps i memory p (judges z n x p))
    takes_quiet ps i memory p o =
        let Fine = λ (w : Verdict). Quiet (takes z n x ps i memory p w) in
        let own = refuse_if (eqb p.from.sender n) (own_parcel p.from.sender) in
        let late = unless (takes_fault z n x p) turned_away is_fresh in
        let known = leb p.from.until (heard_of x.heard p.from.sender) in
        let turned = λ (f : Refusal) (k : Other f). refused_quiet {A = Past × List Letter} (x, ps) (in_front (letter_bytes z p) memory) [] f k in
        unless_cases own turned_away (cond known is_old late) Fine (λ f e. turned f (says_if Other (eqb p.from.sender n) (own_parcel p.from.sender) (other (own_parcel p.from.sender) 31 refl (λ e. omega arith)) f e))
        (λ _. cond_both known is_old late Fine (λ _ f e. absurd (not_arrived old f e))
        (λ _. unless_cases (takes_fault z n x p) turned_away is_fresh Fine (λ f e. turned f (takes_other p o f e)) (λ _ f e. absurd (not_arrived fresh f e))))

    delivers_quiet : (ps : List Letter) (i : ℕ) (memory : List ℕ) (q : Option Letter) → ((p : Letter) → q ≡ Some p → LetterOk z v.log p) → Quiet (delivers z n x ps i memory q)
    delivers_quiet ps i memory None h = refused_quiet {A = Past × List Letter} (x, ps) memory [] (shelf_fault (NoParcel i)) (other (shelf_fault (NoParcel i)) 11 refl (λ e. omega arith))
    delivers_quiet ps i memory (Some p) h =
        unless_cases (room_fault (letter_bytes z p) memory) (refuse (x, ps) memory []) (takes z n x ps i memory p (judges z n x p)) Quiet (λ f e. refused_quiet {A = Past × List Letter} (x, ps) memory [] f (room_other (letter_bytes z p) memory f e)) (λ _. takes_quiet ps i memory p (h p refl))

  loses_quiet : (ps : List Letter) (i : ℕ) (q : Option Letter) → Quiet (loses z ps i q)
  loses_quiet ps i None = refused_quiet ps [] [] (shelf_fault (NoParcel i)) (other (shelf_fault (NoParcel i)) 11 refl (λ e. omega arith))
  loses_quiet ps i (Some p) = λ f e. absurd (not_accepted f e)

  repeats_quiet : (l : ℕ) (ps : List Letter) (i : ℕ) (memory : List ℕ) (q : Option Letter) → Quiet (repeats z l ps i memory q)
  repeats_quiet l ps i memory None = refused_quiet ps memory [] (shelf_fault (NoParcel i)) (other (shelf_fault (NoParcel i)) 11 refl (λ e. omega arith))
  repeats_quiet l ps i memory (Some p) =
      let bytes = letter_bytes z p in
      let full = append_refusal (z.links l) (map (letter_bytes z) ps) bytes in
      unless_cases (room_fault bytes memory) (refuse ps memory []) (unless full (refuse ps (in_front bytes memory) []) (turn (ps ++ p ∷ []) (in_front bytes memory) [] accepted)) Quiet (λ f e. refused_quiet ps memory [] f (room_other bytes memory f e))
      (λ _. unless_cases full (refuse ps (in_front bytes memory) []) (turn (ps ++ p ∷ []) (in_front bytes memory) [] accepted) Quiet (λ f e. refused_quiet ps (in_front bytes memory) [] f (append_other (z.links l) (map (letter_bytes z) ps) bytes f e)) (λ _ f e. absurd (not_accepted f e)))

  forgets_quiet : (x : Past) (t : ℕ) → Quiet (forgets z x t)
  forgets_quiet x t =
      unless_cases (refuse_if (ltb x.step t) (not_kept x.forgotten)) (refuse x [] []) _ Quiet
      (λ f e. refused_quiet x [] [] f (says_if Other (ltb x.step t) (not_kept x.forgotten) (other (not_kept x.forgotten) 38 refl (λ e. omega arith)) f e)) (λ _ f e. absurd (not_accepted f e))

  pub tells_quiet : (m : Machine) → Inv z m → (k : Call) → Quiet (tells z k m)
  tells_quiet m v (worlds.Call.edit r pen bytes work output) f e = edits_quiet r.value (m.pasts r.value) pen bytes work output f e
  tells_quiet m v (worlds.Call.ship r since work output l) f e = ships_quiet r.value (m.pasts r.value) since work output l (m.posts l) f e
  tells_quiet m v (worlds.Call.ship_whole r output l) f e = whole_quiet r.value (m.pasts r.value) output l (m.posts l) f e
  tells_quiet m v (worlds.Call.deliver r l i memory) f e = delivers_quiet m v r (m.posts l) i memory (slice_get (m.posts l) i) (λ p q. v.posts l p (in_nth p (m.posts l) i q)) f e
  tells_quiet m v (worlds.Call.lose l i) f e = loses_quiet (m.posts l) i (slice_get (m.posts l) i) f e
  tells_quiet m v (worlds.Call.repeat l i memory) f e = repeats_quiet l (m.posts l) i memory (slice_get (m.posts l) i) f e
  tells_quiet m v (worlds.Call.forget r t) f e = forgets_quiet (m.pasts r.value) t f e
  tells_quiet m v (worlds.Call.read r part place numbers) f e =
      let x = m.pasts r.value in
      let found = codes (standing (book z x.seen) part place) in
      let short = refuse_if (ltb (length numbers) (length found)) (too_short (length found)) in
      unless_cases (refuse_if (not (is_readable z.kinds part place)) bad_address) (refuse x numbers []) (shown_at x (book z x.seen) part place numbers) Quiet
      (λ g q. refused_quiet x numbers [] g (says_if Other (not (is_readable z.kinds part place)) bad_address (other bad_address 35 refl (λ e. omega arith)) g q))
      (λ _. unless_cases short (refuse x numbers []) (turn x (in_front found numbers) [] (counted (length found))) Quiet
      (λ g q. refused_quiet x numbers [] g (says_if Other (ltb (length numbers) (length found)) (too_short (length found)) (other (too_short (length found)) 41 refl (λ e. omega arith)) g q)) (λ _ g q. absurd (not_counted (length found) g q))) f e
