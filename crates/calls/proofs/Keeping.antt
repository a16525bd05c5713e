-- What each call leaves as it was: case by case.
use Rattle.std.proofs.Common.{◌≡◌, ℕ, zero, suc, ◌*◌, ◌/◌, ◌<◌, ◌≤◌, Bool, true, false, not, ◌||◌, eqb, ltb, ◌⊎◌, List, [], ◌∷◌, map, length, get_or, take, drop, Some, None, Option, sym, refl, ap, ◌∙◌, subst, inl, inr, ⊎_elim, arith, length-append, length-drop}
use Rattle.std.proofs.lemmas.Bool.{ltb-false, le-ltb, cond_both}
use Rattle.std.specs.List.{slice_get}
use Rattle.refusals.specs.declared.Refusal.{Refusal}
use Rattle.causal.specs.declared.places.Place.{Place}
use Rattle.shelves.specs.declared.fault.ShelfFault.TheVariants.{MemoryShort}
use Rattle.shelves.specs.Parcels.{Sizes, shelf_fault, append_refusal, whole, crowded}
use Rattle.kinds.specs.Kinds.{ValueKind}
use Rattle.contexts.specs.Contexts.{too_many}
use Rattle.stores.specs.Faults.{part_full, bad_address}
use Rattle.stores.specs.Items.{Item, count_part}
use Rattle.stores.specs.Puts.{first_of}
use Rattle.groups.specs.Groups.{Group, empty, joined, joined_all}
use Rattle.stores.proofs.Stays.{some_none}
use Rattle.stores.proofs.Lookups.{some_same}
use Rattle.records.specs.declared.record.Origin.{Origin}
use Rattle.reading.specs.Faults.{bad_code}
use Rattle.reading.specs.Reading.{Reading, faulty, complete, first_group, parcel_group}
use Rattle.records.specs.Written.{written, too_short, short_fault, in_front}
use Rattle.groups.specs.Limits.{too_many_runs, work_full, overfull, joining_fault, book_fault}
use Rattle.refusals.specs.Table.{refuse_if}
use Rattle.calls.specs.Faults.{bad_action, nothing_there, used_up, not_kept, other_pen}
use Rattle.calls.specs.Holdings.{Shelf, Replica, Work, Arrival, fresh, old, refusal, wrote, arrived, absorbed, accepted, counted, Turn, turn, refuse, unless}
use Rattle.calls.specs.Steps.{next_origin, origin}
use Rattle.calls.specs.Actions.{Action, set, clear, amend, actions, is_list, readings, first_bad, reading_fault, is_unfit, code_fault, deed, deed_fault, group_of}
use Rattle.calls.specs.Edits.{deeds, deeds_fault, joinings_fault, stepped, unread_fault, undone_fault, unjoined_fault, entered, joined_up, carried_out, edit}
use Rattle.calls.specs.Ships.{appended, sent, kept_after, since_fault, shipped, ship, ship_whole}
use Rattle.calls.specs.Arrivals.{Verdict, turned_away, is_old, is_fresh, verdict, room_fault, settled, unpacked, delivered, deliver, absorbs, looked_at}
use Rattle.calls.specs.Links.{lost, repeated}
use Rattle.calls.specs.Reads.{forget, without_steps, is_readable, shown_at, read}
use Rattle.calls.specs.Keeping.{SameReplica, Numbered, Unread, EditLeaves, ShipLeaves, WholeLeaves, DeliverLeaves, AbsorbLeaves, RepeatLeaves, CallsLeaveTheRest}

pub unless_cases : {A : Type 0} (o : Option Refusal) (g : Refusal → A) (x : A) (P : A → Type 0) → ((f : Refusal) → o ≡ Some f → P (g f)) → (o ≡ None → P x) → P (unless o g x)
unless_cases None g x P h k = k refl
unless_cases (Some f) g x P h k = h f refl

pub fault_same : (f g : Refusal) → refusal f ≡ refusal g → f ≡ g
fault_same f g e = cc

-- the same answer, told apart

pub not_wrote : (n : ℕ) (f : Refusal) → wrote n ≡ refusal f → ⊥
not_wrote n f e = let o : ◌≡◌ {A = ℕ} 0 1 = cc in omega arith

pub not_arrived : (w : Arrival) (f : Refusal) → arrived w ≡ refusal f → ⊥
not_arrived w f e = let o : ◌≡◌ {A = ℕ} 0 1 = cc in omega arith

pub not_absorbed : (w : Arrival) (n : ℕ) (f : Refusal) → absorbed w n ≡ refusal f → ⊥
not_absorbed w n f e = let o : ◌≡◌ {A = ℕ} 0 1 = cc in omega arith

pub not_accepted : (f : Refusal) → accepted ≡ refusal f → ⊥
not_accepted f e = let o : ◌≡◌ {A = ℕ} 0 1 = cc in omega arith

pub not_counted : (n : ℕ) (f : Refusal) → counted n ≡ refusal f → ⊥
not_counted n f e = let o : ◌≡◌ {A = ℕ} 0 1 = cc in omega arith

not_old : (f : Refusal) → refusal f ≡ arrived old → ⊥
not_old f e = let o : ◌≡◌ {A = ℕ} 0 1 = cc in omega arith

fresh_not_old : arrived fresh ≡ arrived old → ⊥
fresh_not_old e = let o : ◌≡◌ {A = ℕ} 0 1 = cc in omega arith

-- every fault of a chain has a property

abbrev pub Says : (Refusal → Type 0) → Option Refusal → Type 0
Says P o = (f : Refusal) → o ≡ Some f → P f

module _ (P : Refusal → Type 0) where
  pub says_none : Says P None
  says_none f e = absurd (some_none (sym e))

  pub says_some : (g : Refusal) → P g → Says P (Some g)
  says_some g p f e = subst P (some_same g f e) p

  pub says_first : (a b : Option Refusal) → Says P a → Says P b → Says P (first_of a b)
  says_first None b h k = k
  says_first (Some g) b h k = h

  pub says_if : (b : Bool) (g : Refusal) → P g → Says P (refuse_if b g)
  says_if true g p = says_some g p
  says_if false g p = says_none

  pub says_overfull : (fault : ℕ → Refusal) → ((p : ℕ) → P (fault p)) → (caps : List ℕ) (xs : List Item) (p n : ℕ) → Says P (overfull fault caps xs p n)
  says_overfull fault h caps xs p zero = says_none
  says_overfull fault h caps xs p (suc n) = cond_both (ltb (get_or caps p 0) (count_part p xs)) (Some (fault p)) (overfull fault caps xs (suc p) n) (Says P) (λ _. says_some (fault p) (h p)) (λ _. says_overfull fault h caps xs (suc p) n)

  pub says_bad : ((n : ℕ) → P (bad_action n)) → (n : ℕ) (os : List (Option Action)) → Says P (first_bad n os)
  says_bad h n [] = says_none
  says_bad h n (None ∷ os) = says_some (bad_action n) (h n)
  says_bad h n (Some a ∷ os) = says_bad h (suc n) os

  pub says_codes : ((n : ℕ) → P (bad_code n)) → (ks : List ValueKind) (n : ℕ) (acts : List Action) → Says P (code_fault ks n acts)
  says_codes h ks n [] = says_none
  says_codes h ks n (a ∷ acts) = cond_both (is_unfit ks a) (Some (bad_code n)) (code_fault ks (suc n) acts) (Says P) (λ _. says_some (bad_code n) (h n)) (λ _. says_codes h ks (suc n) acts)

  module _ (spent : (n : ℕ) → P (used_up n)) (none_there : (n : ℕ) → P (nothing_there n)) where
    pub says_deed : (r n : ℕ) (a : Action) (b : Group) → Says P (deed_fault r n a b)
    says_deed r n (set p l c) b = says_if _ (used_up n) (spent n)
    says_deed r n (clear p l) b = says_none
    says_deed r n (amend p l c) b = says_if _ (nothing_there n) (none_there n)

    pub says_deeds : (ks : List ValueKind) (r n : ℕ) (acts : List Action) (b : Group) → Says P (deeds_fault ks r n acts b)
    says_deeds ks r n [] b = says_none
    says_deeds ks r n (a ∷ acts) b = says_first (deed_fault r n a b) _ (says_deed r n a b) (says_deeds ks r (suc n) acts (joined ks b (group_of (deed ks r a b))))

  module _ (full : (p : ℕ) → P (work_full p)) (many : P (too_many_runs 0)) where
    pub says_joining : (ks : List ValueKind) (caps : List ℕ) (g : Group) → Says P (joining_fault ks caps g)
    says_joining ks caps g = says_first (overfull work_full caps g.items 0 (length ks)) _ (says_overfull work_full full caps g.items 0 (length ks)) (says_if (too_many g.runs) (too_many_runs 0) many)

    pub says_joinings : (ks : List ValueKind) (caps : List ℕ) (g : Group) (hs : List Group) → Says P (joinings_fault ks caps g hs)
    says_joinings ks caps g [] = says_none
    says_joinings ks caps g (h ∷ hs) = says_first (joining_fault ks caps (joined ks g h)) _ (says_joining ks caps (joined ks g h)) (says_joinings ks caps (joined ks g h) hs)

  pub says_book : ((p : ℕ) → P (part_full p)) → P (too_many_runs 1) → (ks : List ValueKind) (caps : List ℕ) (g : Group) → Says P (book_fault ks caps g)
  says_book full many ks caps g = says_first (overfull part_full caps g.items 0 (length ks)) _ (says_overfull part_full full caps g.items 0 (length ks)) (says_if (too_many g.runs) (too_many_runs 1) many)

-- a shelf's refusal is of layer 1, and of number 13 or 14

pub append_says : (z : Sizes) (ps : List (List ℕ)) (p : List ℕ) → Says (λ f. (f.layer ≡ 1) × (Numbered 13 f ⊎ Numbered 14 f)) (append_refusal z ps p)
append_says z ps p f e =
    cond_both (whole (length p)) _ _ (λ o. o ≡ Some f → (f.layer ≡ 1) × (Numbered 13 f ⊎ Numbered 14 f))
    (λ _. cond_both (crowded z (length ps) _ (length p / 24)) _ _ (λ o. o ≡ Some f → (f.layer ≡ 1) × (Numbered 13 f ⊎ Numbered 14 f)) (λ _ e. says_some (λ f. (f.layer ≡ 1) × (Numbered 13 f ⊎ Numbered 14 f)) _ (refl, inl refl) f e) (λ _ e. absurd (some_none (sym e))))
    (λ _ e. says_some (λ f. (f.layer ≡ 1) × (Numbered 13 f ⊎ Numbered 14 f)) _ (refl, inr refl) f e) e

pub front_long : (bytes memory : List ℕ) → length bytes ≤ length memory → length (in_front bytes memory) ≡ length memory
front_long bytes memory l = let a = length-append bytes (drop (length bytes) memory) in let b = length-drop (length bytes) memory in omega arith

pub none_parts : (a b : Option Refusal) → first_of a b ≡ None → (a ≡ None) × (b ≡ None)
none_parts None b e = (refl, e)
none_parts (Some f) b e = absurd (some_none e)

pub not_if : (b : Bool) (f : Refusal) → refuse_if b f ≡ None → b ≡ false
not_if true f e = absurd (some_none e)
not_if false f e = refl

same_self : (x : Replica) → SameReplica x x
same_self x = record { number = refl; capacities = refl; sizes = refl }

-- edit

abbrev Late : Refusal → Type 0
Late f = Unread f → ⊥

module _ (ks : List ValueKind) (x : Replica) (work : Work) (output : List ℕ) where
  early : (f : Refusal) → Unread f → EditLeaves x work output (refuse x output work.items f)
  early f u = record {
    replica = λ g e. refl;
    untouched = λ g e w. (refl, refl);
    emptied = λ h. absurd (h f refl u);
    unwritten = λ g e n. refl;
    as_long = refl;
    fixed = same_self x;
    heard = refl;
    forgotten = refl;
  }

  late : (f : Refusal) → Late f → EditLeaves x work output (refuse x output [] f)
  late f u = record {
    replica = λ g e. refl;
    untouched = λ g e w. absurd (u (subst Unread (sym (fault_same f g e)) w));
    emptied = λ h. refl;
    unwritten = λ g e n. refl;
    as_long = refl;
    fixed = same_self x;
    heard = refl;
    forgotten = refl;
  }

  untaken : (bytes : List ℕ) (f : Refusal) → length bytes ≤ length output → f.layer ≡ 1 → Late f → EditLeaves x work output (refuse x (in_front bytes output) [] f)
  untaken bytes f l s u = record {
    replica = λ g e. refl;
    untouched = λ g e w. absurd (u (subst Unread (sym (fault_same f g e)) w));
    emptied = λ h. refl;
    unwritten = λ g e n. absurd (n (subst (λ (v : Refusal). v.layer ≡ 1) (fault_same f g e) s));
    as_long = front_long bytes output l;
    fixed = same_self x;
    heard = refl;
    forgotten = refl;
  }

  entered_leaves : (g : Group) (bytes : List ℕ) → length bytes ≤ length output → EditLeaves x work output (entered ks x g bytes output)
  entered_leaves g bytes l =
      unless_cases (append_refusal x.deltas.sizes x.deltas.parcels bytes) (refuse x (in_front bytes output) []) (turn (stepped ks x g x.heard) (in_front bytes output) [] (wrote (length bytes))) (EditLeaves x work output)
      (λ f e. let a = append_says x.deltas.sizes x.deltas.parcels bytes f e in untaken bytes f l a.0 (λ u. shelf f a.1 u))
      (λ _. record {
        replica = λ f e. absurd (not_wrote (length bytes) f e);
        untouched = λ f e w. absurd (not_wrote (length bytes) f e);
        emptied = λ h. refl;
        unwritten = λ f e n. absurd (not_wrote (length bytes) f e);
        as_long = front_long bytes output l;
        fixed = record { number = refl; capacities = refl; sizes = refl };
        heard = refl;
        forgotten = refl;
      })
    where
      shelf : (f : Refusal) → Numbered 13 f ⊎ Numbered 14 f → Unread f → ⊥
      shelf f (inl a) (inl b) = omega arith
      shelf f (inl a) (inr b) = omega arith
      shelf f (inr a) (inl b) = omega arith
      shelf f (inr a) (inr b) = omega arith

  says_unread : (pen : ℕ) (bytes : List ℕ) → Says Unread (unread_fault ks x.number pen bytes)
  says_unread pen bytes =
      says_first Unread (refuse_if (not (eqb pen x.number)) (other_pen pen)) (reading_fault ks bytes) (says_if Unread (not (eqb pen x.number)) (other_pen pen) (inl refl))
      (says_first Unread (refuse_if (not (is_list (length bytes))) (bad_action (length bytes / 24))) (first_bad 0 (readings ks bytes)) (says_if Unread (not (is_list (length bytes))) (bad_action (length bytes / 24)) (inr refl)) (says_bad Unread (λ n. inr refl) 0 (readings ks bytes)))

  late_number : (f : Refusal) (n : ℕ) → f.number ≡ n → (n ≡ 39 → ⊥) → (n ≡ 35 → ⊥) → Late f
  late_number f n e a b u = ⊎_elim (λ c. a (sym e ∙ c)) (λ c. b (sym e ∙ c)) u

  says_undone : (acts : List Action) → Says Late (undone_fault ks x acts)
  says_undone acts =
      says_first Late (code_fault ks 0 acts) _ (says_codes Late (λ n. late_number (bad_code n) 23 refl (λ e. omega arith) (λ e. omega arith)) ks 0 acts)
      (says_first Late (deeds_fault ks x.number 0 acts x.book) _ (says_deeds Late (λ n. late_number (used_up n) 37 refl (λ e. omega arith) (λ e. omega arith)) (λ n. late_number (nothing_there n) 36 refl (λ e. omega arith) (λ e. omega arith)) ks x.number 0 acts x.book)
      (says_if Late _ (used_up (length acts)) (late_number (used_up (length acts)) 37 refl (λ e. omega arith) (λ e. omega arith))))

  says_unjoined : (gs : List Group) (caps bytes : List ℕ) → Says Late (unjoined_fault ks x gs caps bytes output)
  says_unjoined gs caps bytes =
      says_first Late (joinings_fault ks caps empty gs) _ (says_joinings Late (λ p. late_number (work_full p) 40 refl (λ e. omega arith) (λ e. omega arith)) (late_number (too_many_runs 0) 34 refl (λ e. omega arith) (λ e. omega arith)) ks caps empty gs)
      (says_first Late (book_fault ks x.capacities (joined ks x.book (joined_all ks gs))) _ (says_book Late (λ p. late_number (part_full p) 33 refl (λ e. omega arith) (λ e. omega arith)) (late_number (too_many_runs 1) 34 refl (λ e. omega arith) (λ e. omega arith)) ks x.capacities (joined ks x.book (joined_all ks gs)))
      (says_if Late _ (too_short (length bytes)) (late_number (too_short (length bytes)) 41 refl (λ e. omega arith) (λ e. omega arith))))

  joined_leaves : (gs : List Group) (caps : List ℕ) → EditLeaves x work output (joined_up ks x gs caps output)
  joined_leaves gs caps =
      let g = joined_all ks gs in
      let bytes = written g (next_origin x.number x.step) in
      let book = book_fault ks x.capacities (joined ks x.book g) in
      unless_cases (unjoined_fault ks x gs caps bytes output) (refuse x output []) (entered ks x g bytes output) (EditLeaves x work output) (λ f e. late f (says_unjoined gs caps bytes f e))
      (λ n. entered_leaves g bytes (ltb-false (length output) (length bytes) (not_if (ltb (length output) (length bytes)) (too_short (length bytes)) (none_parts book (short_fault bytes output) (none_parts (joinings_fault ks caps empty gs) (first_of book (short_fault bytes output)) n).1).1)))

  pub edit_leaves : (pen : ℕ) (bytes : List ℕ) → EditLeaves x work output (edit ks x pen bytes work output)
  edit_leaves pen bytes =
      let acts = actions ks bytes in
      let gs = map group_of (deeds ks x.number acts x.book) in
      unless_cases (unread_fault ks x.number pen bytes) (refuse x output work.items) (carried_out ks x acts work.capacities output) (EditLeaves x work output) (λ f e. early f (says_unread pen bytes f e))
      (λ _. unless_cases (undone_fault ks x acts) (refuse x output []) (joined_up ks x gs work.capacities output) (EditLeaves x work output) (λ f e. late f (says_undone acts f e))
      (λ _. joined_leaves gs work.capacities))

-- ship

module _ (link : Shelf) (output : List ℕ) where
  sent_whole : (parcel : List ℕ) → length parcel ≤ length output → WholeLeaves link output (sent link parcel output)
  sent_whole parcel l =
      unless_cases (append_refusal link.sizes link.parcels parcel) (refuse link (in_front parcel output) []) (turn (appended link parcel) (in_front parcel output) [] (wrote (length parcel))) (WholeLeaves link output)
      (λ f e. let a = append_says link.sizes link.parcels parcel f e in
      record { unsent = λ g e. refl; unwritten = λ g e n. absurd (n (subst (λ (v : Refusal). v.layer ≡ 1) (fault_same f g e) a.0)); as_long = front_long parcel output l; fixed = refl })
      (λ _. record { unsent = λ f e. absurd (not_wrote (length parcel) f e); unwritten = λ f e n. absurd (not_wrote (length parcel) f e); as_long = front_long parcel output l; fixed = refl })

  not_short : (bytes : List ℕ) → short_fault bytes output ≡ None → length bytes ≤ length output
  not_short bytes e = ltb-false (length output) (length bytes) (not_if (ltb (length output) (length bytes)) (too_short (length bytes)) e)

  pub whole_leaves : (x : Replica) → WholeLeaves link output (ship_whole x output link)
  whole_leaves x =
      let parcel = written x.book (origin x.number 0 x.step) in
      unless_cases (short_fault parcel output) (refuse link output []) (sent link parcel output) (WholeLeaves link output) (λ f e. record { unsent = λ g e. refl; unwritten = λ g e n. refl; as_long = refl; fixed = refl })
      (λ e. sent_whole parcel (not_short parcel e))

  module _ (ks : List ValueKind) (work : Work) where
    abbrev NotSince : Refusal → Type 0
    NotSince f = Numbered 38 f → ⊥

    later : (f : Refusal) (n : ℕ) → f.number ≡ n → (n ≡ 38 → ⊥) → NotSince f
    later f n e a u = a (sym e ∙ u)

    unshipped : (f : Refusal) → NotSince f → ShipLeaves link work output (refuse link output [] f)
    unshipped f u = record { unsent = λ g e. refl; untouched = λ g e w. absurd (u (subst (Numbered 38) (sym (fault_same f g e)) w)); emptied = λ h. refl; unwritten = λ g e n. refl; as_long = refl; fixed = refl }

    sent_leaves : (parcel : List ℕ) → length parcel ≤ length output → ShipLeaves link work output (sent link parcel output)
    sent_leaves parcel l =
        unless_cases (append_refusal link.sizes link.parcels parcel) (refuse link (in_front parcel output) []) (turn (appended link parcel) (in_front parcel output) [] (wrote (length parcel))) (ShipLeaves link work output)
        (λ f e. let a = append_says link.sizes link.parcels parcel f e in
        record {
          unsent = λ g e. refl;
          untouched = λ g e w. absurd (shelf g (subst (λ (v : Refusal). Numbered 13 v ⊎ Numbered 14 v) (fault_same f g e) a.1) w);
          emptied = λ h. refl;
          unwritten = λ g e n. absurd (n (subst (λ (v : Refusal). v.layer ≡ 1) (fault_same f g e) a.0));
          as_long = front_long parcel output l;
          fixed = refl;
        })
        (λ _. record { unsent = λ f e. absurd (not_wrote (length parcel) f e); untouched = λ f e w. absurd (not_wrote (length parcel) f e); emptied = λ h. refl; unwritten = λ f e n. absurd (not_wrote (length parcel) f e); as_long = front_long parcel output l; fixed = refl })
      where
        shelf : (f : Refusal) → Numbered 13 f ⊎ Numbered 14 f → Numbered 38 f → ⊥
        shelf f (inl a) b = omega arith
        shelf f (inr a) b = omega arith

    pub ship_leaves : (x : Replica) (since : ℕ) → ShipLeaves link work output (ship ks x since work output link)
    ship_leaves x since =
        let gs = kept_after ks x since in
        let parcel = written (joined_all ks gs) (origin x.number since x.step) in
        let joins = joinings_fault ks work.capacities empty gs in
        unless_cases (since_fault x since) (refuse link output work.items) (shipped ks x since gs work.capacities output link) (ShipLeaves link work output)
        (λ f e. record {
          unsent = λ g e. refl;
          untouched = λ g e w. (refl, refl);
          emptied = λ h. absurd (h f refl (says_if (Numbered 38) (ltb x.step since || ltb since x.forgotten) (not_kept x.forgotten) refl f e));
          unwritten = λ g e n. refl;
          as_long = refl;
          fixed = refl;
        })
        (λ _. unless_cases (first_of joins (short_fault parcel output)) (refuse link output []) (sent link parcel output) (ShipLeaves link work output)
        (λ f e. unshipped f (says_first NotSince joins (short_fault parcel output) (says_joinings NotSince (λ p. later (work_full p) 40 refl (λ e. omega arith)) (later (too_many_runs 0) 34 refl (λ e. omega arith)) ks work.capacities empty gs) (says_if NotSince (ltb (length output) (length parcel)) (too_short (length parcel)) (later (too_short (length parcel)) 41 refl (λ e. omega arith))) f e))
        (λ e. sent_leaves parcel (not_short parcel (none_parts joins (short_fault parcel output) e).1)))

-- deliver and absorb

module _ (ks : List ValueKind) (x : Replica) (memory : List ℕ) where
  module _ (link : Shelf) (position : ℕ) where
    abbrev Leaves : Turn (Replica × Shelf) → Type 0
    Leaves t = DeliverLeaves x link position memory t

    other_parcel : (o : Option (List ℕ)) (p q : List ℕ) → o ≡ Some p → o ≡ Some q → p ≡ q
    other_parcel o p q e f = some_same p q (sym e ∙ f)

    module _ (parcel : List ℕ) (there : slice_get link.parcels position ≡ Some parcel) where
      gone_none : slice_get link.parcels position ≡ None → ⊥
      gone_none e = some_none (sym there ∙ e)

      module _ (room : length parcel ≤ length memory) where
        short_not : (p : List ℕ) → slice_get link.parcels position ≡ Some p → length memory < length p → ⊥
        short_not p e l = let s = ap length (other_parcel (slice_get link.parcels position) p parcel e there) in omega arith

        came : (p : List ℕ) → slice_get link.parcels position ≡ Some p → in_front parcel memory ≡ in_front p memory
        came p e = ap (λ q. in_front q memory) (other_parcel (slice_get link.parcels position) parcel p there e)

        turned : (f : Refusal) → Leaves (refuse (x, link) (in_front parcel memory) [] f)
        turned f = record { both = λ g e. refl; replica = λ e. refl; no_parcel = λ e. absurd (gone_none e); no_room = λ p e l. absurd (short_not p e l); as_it_came = λ p e l n. came p e; fixed = same_self x; fixed_link = refl; forgotten = refl }

        settled_leaves : (g : Group) (o : Origin) (v : Verdict) → Leaves (settled ks x link position parcel memory g o v)
        settled_leaves g o (turned_away f) = turned f
        settled_leaves g o is_old = record { both = λ f e. absurd (not_arrived old f e); replica = λ e. refl; no_parcel = λ e. absurd (gone_none e); no_room = λ p e l. absurd (short_not p e l); as_it_came = λ p e l n. came p e; fixed = same_self x; fixed_link = refl; forgotten = refl }
        settled_leaves g o is_fresh = record {
          both = λ f e. absurd (not_arrived fresh f e);
          replica = λ e. absurd (fresh_not_old e);
          no_parcel = λ e. absurd (gone_none e);
          no_room = λ p e l. absurd (short_not p e l);
          as_it_came = λ p e l n. absurd (n refl);
          fixed = record { number = refl; capacities = refl; sizes = refl };
          fixed_link = refl;
          forgotten = refl;
        }

        unpacked_leaves : (r : Reading) → Leaves (unpacked ks x link position parcel memory r)
        unpacked_leaves (faulty f) = turned f
        unpacked_leaves (complete g o n) = settled_leaves g o (verdict ks x g o)

    delivered_leaves : (o : Option (List ℕ)) → slice_get link.parcels position ≡ o → Leaves (delivered ks x link position memory o)
    delivered_leaves None none = record { both = λ f e. refl; replica = λ e. refl; no_parcel = λ e. refl; no_room = λ p e l. refl; as_it_came = λ p e l n. absurd (some_none (sym e ∙ none)); fixed = same_self x; fixed_link = refl; forgotten = refl }
    delivered_leaves (Some parcel) there =
        let short = ltb (length memory) (length parcel) in
        unless_cases (room_fault parcel memory) (refuse (x, link) memory []) (unpacked ks x link position parcel memory (parcel_group ks parcel)) Leaves
        (λ f e. record {
          both = λ f e. refl;
          replica = λ e. refl;
          no_parcel = λ e. refl;
          no_room = λ p e l. refl;
          as_it_came = λ p q l n. absurd (shorter f e (subst (λ v. length v ≤ length memory) (other_parcel (slice_get link.parcels position) p parcel q there) l));
          fixed = same_self x;
          fixed_link = refl;
          forgotten = refl;
        })
        (λ e. unpacked_leaves parcel there (ltb-false (length memory) (length parcel) (not_if short (shelf_fault (MemoryShort (length parcel))) e)) (parcel_group ks parcel))
      where
        shorter : (f : Refusal) → room_fault parcel memory ≡ Some f → length parcel ≤ length memory → ⊥
        shorter f e l = some_none (sym e ∙ ap (λ b. refuse_if b (shelf_fault (MemoryShort (length parcel)))) (le-ltb (length memory) (length parcel) l))

    pub deliver_leaves : Leaves (deliver ks x link position memory)
    deliver_leaves = delivered_leaves (slice_get link.parcels position) refl

  kept_absorbing : (t : Turn Replica) → t.after ≡ x → AbsorbLeaves x t
  kept_absorbing t e = record { replica = λ f _. e; old_replica = λ n _. e; fixed = subst (SameReplica x) (sym e) (same_self x); forgotten = ap (λ (v : Replica). v.forgotten) e }

  absorbs_leaves : (first : List ℕ) (g : Group) (o : Origin) (v : Verdict) → AbsorbLeaves x (absorbs ks x first memory g o v)
  absorbs_leaves first g o (turned_away f) = kept_absorbing _ refl
  absorbs_leaves first g o is_old = kept_absorbing _ refl
  absorbs_leaves first g o is_fresh = record { replica = λ f e. absurd (not_absorbed fresh (length first) f e); old_replica = λ n e. absurd (other n e); fixed = record { number = refl; capacities = refl; sizes = refl }; forgotten = refl }
    where
      other : (n : ℕ) → absorbed fresh (length first) ≡ absorbed old n → ⊥
      other n e = let z : ◌≡◌ {A = ℕ} 0 1 = cc in omega arith

  looked_leaves : (journal : List ℕ) (r : Reading) → AbsorbLeaves x (looked_at ks x journal memory r)
  looked_leaves journal (faulty f) = kept_absorbing _ refl
  looked_leaves journal (complete g o n) =
      let first = take (24 * n) journal in
      unless_cases (room_fault first memory) (refuse x memory []) (absorbs ks x first memory g o (verdict ks x g o)) (AbsorbLeaves x) (λ f e. kept_absorbing _ refl) (λ _. absorbs_leaves first g o (verdict ks x g o))

-- lose, repeat, forget, read

module _ (link : Shelf) (position : ℕ) where
  lost_leaves : (o : Option (List ℕ)) (f : Refusal) → (lost link position o).answer ≡ refusal f → (lost link position o).after ≡ link
  lost_leaves None f e = refl
  lost_leaves (Some p) f e = absurd (not_accepted f e)

  repeated_leaves : (memory : List ℕ) (o : Option (List ℕ)) → RepeatLeaves link memory (repeated link position memory o)
  repeated_leaves memory None = record { unsent = λ f e. refl; as_long = refl; fixed = refl }
  repeated_leaves memory (Some parcel) =
      let full = append_refusal link.sizes link.parcels parcel in
      unless_cases (room_fault parcel memory) (refuse link memory []) (unless full (refuse link (in_front parcel memory) []) (turn (appended link parcel) (in_front parcel memory) [] accepted)) (RepeatLeaves link memory) (λ f e. record { unsent = λ f e. refl; as_long = refl; fixed = refl })
      (λ e. let l = ltb-false (length memory) (length parcel) (not_if (ltb (length memory) (length parcel)) (shelf_fault (MemoryShort (length parcel))) e) in
      unless_cases full (refuse link (in_front parcel memory) []) (turn (appended link parcel) (in_front parcel memory) [] accepted) (RepeatLeaves link memory) (λ f e. record { unsent = λ f e. refl; as_long = front_long parcel memory l; fixed = refl })
      (λ _. record { unsent = λ f e. absurd (not_accepted f e); as_long = front_long parcel memory l; fixed = refl }))

module _ (x : Replica) (t : ℕ) where
  abbrev ahead : Option Refusal
  ahead = refuse_if (ltb x.step t) (not_kept x.forgotten)

  forget_leaves : (f : Refusal) → (forget x t).answer ≡ refusal f → (forget x t).after ≡ x
  forget_leaves f = unless_cases ahead (refuse x [] []) (turn (without_steps x t) [] [] accepted) (λ (u : Turn Replica). u.answer ≡ refusal f → u.after ≡ x) (λ g e _. refl) (λ _ e. absurd (not_accepted f e))

  forget_only : ((forget x t).after.book ≡ x.book) × ((forget x t).after.step ≡ x.step) × ((forget x t).after.heard ≡ x.heard) × SameReplica x (forget x t).after
  forget_only = unless_cases ahead (refuse x [] []) (turn (without_steps x t) [] [] accepted) (λ (u : Turn Replica). (u.after.book ≡ x.book) × (u.after.step ≡ x.step) × (u.after.heard ≡ x.heard) × SameReplica x u.after)
      (λ g e. (refl, refl, refl, same_self x)) (λ _. (refl, refl, refl, record { number = refl; capacities = refl; sizes = refl }))

module _ (ks : List ValueKind) (x : Replica) (part : ℕ) (place : Place) (numbers : List ℕ) where
  read_leaves : ((read ks x part place numbers).after ≡ x) × ((f : Refusal) → (read ks x part place numbers).answer ≡ refusal f → (read ks x part place numbers).memory ≡ numbers)
  read_leaves =
      let P = λ (u : Turn Replica). (u.after ≡ x) × ((f : Refusal) → u.answer ≡ refusal f → u.memory ≡ numbers) in
      unless_cases (refuse_if (not (is_readable ks part place)) bad_address) (refuse x numbers []) (shown_at x x.book part place numbers) P (λ f e. (refl, λ g _. refl))
      (λ _. unless_cases _ (refuse x numbers []) _ P (λ f e. (refl, λ g _. refl)) (λ _. (refl, λ f e. absurd (not_counted _ f e))))

pub calls_leave : CallsLeaveTheRest
calls_leave ks = record {
  edits = λ x pen bytes work output. edit_leaves ks x work output pen bytes;
  ships = λ x since work output link. ship_leaves link output ks work x since;
  ships_whole = λ x output link. whole_leaves link output x;
  delivers = λ x link position memory. deliver_leaves ks x memory link position;
  absorbs = λ x journal memory. looked_leaves ks x memory journal (first_group ks journal);
  loses = λ link position. lost_leaves link position (slice_get link.parcels position);
  repeats = λ link position memory. repeated_leaves link position memory (slice_get link.parcels position);
  forgets = forget_leaves;
  forgets_only = forget_only;
  reads = λ x part place numbers. (read_leaves ks x part place numbers).0;
  reads_memory = λ x part place numbers. (read_leaves ks x part place numbers).1;
}
