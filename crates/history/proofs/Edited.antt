-- An edit keeps what holds of the machine, and the replicas follow it.
use Rattle.std.proofs.Common.{◌≡◌, ℕ, ◌+◌, ◌<◌, ◌≤◌, true, false, eqb, ◌⊎◌, List, [], ◌∷◌, ◌++◌, map, length, Some, None, Option, sym, refl, ap, ◌∙◌, subst, ap₂, inl, inr, ⊎_elim, arith}
use Rattle.std.proofs.lemmas.Bool.{eqb-false}
use Rattle.std.specs.List.{AllByRecursion}
use Rattle.refusals.specs.declared.Refusal.{Refusal}
use Rattle.shelves.specs.Parcels.{append_refusal}
use Rattle.causal.specs.declared.dots.Dot.{Dot}
use Rattle.causal.specs.Dots.{is_dot}
use Rattle.causal.specs.Runs.{highest}
use Rattle.contexts.specs.Contexts.{most_runs}
use Rattle.stores.specs.Items.{Item}
use Rattle.stores.specs.Puts.{first_of}
use Rattle.stores.specs.Sound.{FewParts}
use Rattle.groups.specs.Groups.{Group}
use Rattle.records.specs.Written.{written, Narrow, short_fault, in_front}
use Rattle.groups.specs.Limits.{book_fault}
use Rattle.calls.specs.Holdings.{Work, wrote, Turn, turn, refuse, unless}
use Rattle.calls.specs.Steps.{step_fault, next_origin}
use Rattle.calls.specs.Actions.{Action, actions, code_fault, Deed, group_of}
use Rattle.calls.specs.Edits.{unread_fault, deeds_fault, joined_up, carried_out, edit}
use Rattle.history.specs.Sets.{◌∈◌}
use Rattle.history.specs.Books.{book_of}
use Rattle.history.specs.Worlds.{Number, Setting}
use Rattle.history.specs.History.{Name, Edit, Edits, put_by, struck_by, puts_of, strikes_of, Past, grown, made, book, kept_bytes, planned, planned_fault, doing_fault, enters, carries_out, edits, Machine, on_past}
use Rattle.history.specs.Law.{shown}
use Rattle.history.proofs.Members.{in_left, in_right, in_either, nil_right, all_from}
use Rattle.history.proofs.Books.{Dotted, OnePlace, Good}
use Rattle.history.proofs.Histories.{Sane, put_by_append, struck_by_append, part_puts, part_strikes, book_union}
use Rattle.history.proofs.Actions.{Read, Coded, actions_read, coded}
use Rattle.history.proofs.Deeds.{Knowing, Done, planned_done, fault_same, deeds_same, joins_deeds}
use Rattle.history.proofs.Invariants.{Closed, names_part, Inv, inv_same, inv_grown}
use Rattle.history.proofs.Simulation.{unless_same, turn_past}
use Rattle.history.proofs.Followed.{enters_shown}
use Rattle.history.proofs.Steps.{unless_both, none_of, book_few, step_room, doing_few, closed_now}

module _ (z : Setting) (few : FewParts z.kinds) (m : Machine) (v : Inv z m) (r : Number) where
  abbrev n : ℕ
  n = r.value

  abbrev x : Past
  x = m.pasts n

  abbrev es : Edits
  es = x.seen

  know : Knowing z few n r.checked (put_by es) (struck_by es) (put_by v.all)
  know = record {
    struck = λ d i. v.sane.struck d (part_strikes es v.all (v.pasts n).part d i);
    part = λ y i. part_puts es v.all (v.pasts n).part y i;
    one = v.sane.one;
    good = v.sane.good;
    narrow = v.sane.narrow;
    own = (v.pasts n).own;
  }

  -- an edit whose actions can be done
  module _ (acts : List Action) (rs : AllByRecursion (Read z.kinds) acts) (cs : AllByRecursion (Coded z.kinds) acts) (ok : planned_fault z n 0 acts (put_by es) (struck_by es) ≡ None) where
    abbrev ds : List Deed
    ds = planned z n acts (put_by es) (struck_by es)

    abbrev new : Edits
    new = made n x ds ∷ []

    abbrev all : Edits
    all = v.all ++ new

    result : Done z few n r.checked (put_by es) (struck_by es) (put_by v.all) ds
    result = planned_done z few n r.checked acts 0 (put_by es) (struck_by es) (put_by v.all) know rs cs ok

    puts_more : (fs : Edits) → put_by (fs ++ new) ≡ put_by fs ++ puts_of ds
    puts_more fs = put_by_append fs new ∙ ap (λ l. put_by fs ++ l) (nil_right (puts_of ds))

    strikes_more : (fs : Edits) → struck_by (fs ++ new) ≡ struck_by fs ++ strikes_of ds
    strikes_more fs = struck_by_append fs new ∙ ap (λ l. struck_by fs ++ l) (nil_right (strikes_of ds))

    one_of : (e : Edit) → e ∈ all → (e ∈ v.all) ⊎ (e ≡ made n x ds)
    one_of e i = ⊎_elim (λ a. inl a) (λ a. ⊎_elim (λ b. inr b) (λ b. absurd b) a) (in_either e v.all new i)

    sane_more : Sane z.kinds all
    sane_more = record {
      good = subst (Good z.kinds) (sym (puts_more v.all)) result.knowing.good;
      one = subst OnePlace (sym (puts_more v.all)) result.knowing.one;
      struck = subst (λ l. (d : Dot) → d ∈ l → is_dot d ≡ true) (sym (strikes_more v.all)) (λ d i. ⊎_elim (λ a. v.sane.struck d a) (λ a. result.struck d a) (in_either d (struck_by v.all) (strikes_of ds) i));
      narrow = subst (λ l. (y : Item) → y ∈ l → Narrow y) (sym (puts_more v.all)) result.knowing.narrow;
    }

    dated_here : (e : Edit) → e ∈ all → e.name.author ≡ n → e.name.step ≤ x.step + 1
    dated_here e i a = ⊎_elim (λ b. let c = (v.pasts n).dated e b a in omega arith) (λ b. let c = ap (λ (t : Edit). t.name.step) b in omega arith) (one_of e i)

    dated_there : (q : ℕ) → eqb n q ≡ false → (e : Edit) → e ∈ all → e.name.author ≡ q → e.name.step ≤ (m.pasts q).step
    dated_there q k e i a = ⊎_elim (λ b. (v.pasts q).dated e b a) (λ b. absurd (eqb-false n q k (sym (ap (λ (t : Edit). t.name.author) b) ∙ a))) (one_of e i)

    new_name : (e : Edit) → e ∈ v.all → e.name ≡ (made n x ds).name → ⊥
    new_name e i k =
        let a = (v.pasts n).dated e i (ap (λ (t : Name). t.author) k) in
        let b = ap (λ (t : Name). t.step) k in
        omega arith

    named_more : (e f : Edit) → e ∈ all → f ∈ all → e.name ≡ f.name → e ≡ f
    named_more e f i j k =
        ⊎_elim (λ a. ⊎_elim (λ b. v.named e f a b k) (λ b. absurd (new_name e a (k ∙ ap (λ (t : Edit). t.name) b))) (one_of f j))
        (λ a. ⊎_elim (λ b. absurd (new_name f b (sym k ∙ ap (λ (t : Edit). t.name) a))) (λ b. a ∙ sym b) (one_of f j)) (one_of e i)

    edit_own_here : (y : Item) → y ∈ put_by all → y.dot.replica ≡ n → y.dot.counter ≤ highest n (book z (es ++ new)).runs
    edit_own_here y i e =
        subst (λ (b : Group). y.dot.counter ≤ highest n b.runs) (sym (ap₂ (book_of z.kinds) (puts_more es) (strikes_more es)))
        (result.knowing.own y (subst (λ l. y ∈ l) (puts_more v.all) i) e)

    edit_own_there : (q : ℕ) → eqb n q ≡ false → (y : Item) → y ∈ put_by all → y.dot.replica ≡ q → y.dot.counter ≤ highest q (book z (m.pasts q).seen).runs
    edit_own_there q k y i e = ⊎_elim (λ a. (v.pasts q).own y a e) (λ a. ⊎_elim earlier (λ b. absurd (eqb-false n q k (sym b ∙ e))) (result.origin y a)) (in_either y (put_by v.all) (puts_of ds) (subst (λ l. y ∈ l) (puts_more v.all) i))
      where
        earlier : (t : Item) × (t ∈ put_by es) × (y.dot ≡ t.dot) → y.dot.counter ≤ highest q (book z (m.pasts q).seen).runs
        earlier t =
            let a = (v.pasts q).own t.0 (part_puts es v.all (v.pasts n).part t.0 t.1) (ap (λ (u : Dot). u.replica) (sym t.2) ∙ e) in
            let b = ap (λ (u : Dot). u.counter) t.2 in
            omega arith

    edit_closing : Closed (es ++ new)
    edit_closing f k i j =
        names_part es (es ++ new) (λ g a. in_left g es new a) k
        (⊎_elim (λ a. closed_now z m v n f k a j) (λ a. ⊎_elim (λ p. subst (λ (t : Edit). k ∈ t.past) p j) (λ b. absurd b) a) (in_either f es new i))

    new_few : (caps : List ℕ) → doing_fault z caps [] [] ds ≡ None → length (book z new).runs ≤ most_runs
    new_few caps e = rw (nil_right (puts_of ds), nil_right (strikes_of ds)) (doing_few z caps [] [] ds e (omega arith))

    inv_enters : (caps output : List ℕ) → step_fault x.step (length acts) ≡ None → Inv z (on_past m n (enters z n x ds caps output)).after
    inv_enters caps output room =
        let Fine = λ (t : Turn Past). Inv z (on_past m n t).after in
        let bytes = written (book z new) (next_origin n x.step) in
        let short = short_fault bytes output in
        let full = append_refusal (z.deltas n) (kept_bytes z n x.forgotten x.kept) bytes in
        let judged = book_fault z.kinds (z.capacities n) (book z (es ++ new)) in
        let last : Turn Past = turn (grown x new x.heard) (in_front bytes output) [] (wrote (length bytes)) in
        unless_both (first_of (doing_fault z caps [] [] ds) (first_of judged short)) (refuse x output []) (unless full (refuse x (in_front bytes output) []) last) Fine (λ e. inv_same z m v n)
        (λ e. unless_both full (refuse x (in_front bytes output) []) last Fine (λ f. inv_same z m v n)
        (λ f. let a = none_of (doing_fault z caps [] [] ds) (first_of judged short) e in
        inv_grown z m v n new x.heard all sane_more named_more (λ g i. in_left g v.all new i) (λ g i. in_right g v.all new i) (step_room x.step (length acts) room)
        (book_few z.kinds (z.capacities n) (book z (es ++ new)) (none_of judged short a.1).0) (new_few caps a.0)
        edit_own_here edit_own_there dated_here dated_there edit_closing (v.pasts n).sixteen (v.pasts n).heard
        (λ q t g i. in_left g es new ((v.pasts n).caught q t g i))))

    good_new : Good z.kinds (puts_of ds)
    good_new y i = result.knowing.good y (in_right y (put_by v.all) (puts_of ds) i)

    one_new : OnePlace (puts_of ds)
    one_new y w i j = result.knowing.one y w (in_right y (put_by v.all) (puts_of ds) i) (in_right w (put_by v.all) (puts_of ds) j)

    struck_new : Dotted (strikes_of ds)
    struck_new = all_from (λ d. is_dot d ≡ true) (strikes_of ds) result.struck

    image_enters : (caps output : List ℕ) → joined_up z.kinds (shown z n x) (map group_of ds) caps output ≡ turn_past z n (enters z n x ds caps output)
    image_enters caps output =
        let j = joins_deeds z few n r.checked caps ds [] [] result.groups tt struck_new good_new one_new in
        enters_shown z v.all v.sane v.log n r.checked x (v.log n) (v.pasts n) ds caps output
        (j.0 ∙ ap₂ (book_of z.kinds) (sym (nil_right (puts_of ds))) (sym (nil_right (strikes_of ds)))) j.1
        (book_union z all sane_more es new (λ e i. in_left e v.all new ((v.pasts n).part e i)) (λ e i. in_right e v.all new i))

  module _ (acts : List Action) (rs : AllByRecursion (Read z.kinds) acts) (caps output : List ℕ) where
    abbrev planning : Option Refusal
    planning = planned_fault z n 0 acts (put_by es) (struck_by es)

    abbrev stepping : Option Refusal
    stepping = step_fault x.step (length acts)

    inv_carries : Inv z (on_past m n (carries_out z n x acts caps output)).after
    inv_carries =
        unless_both (first_of (code_fault z.kinds 0 acts) (first_of planning stepping)) (refuse x output []) (enters z n x (planned z n acts (put_by es) (struck_by es)) caps output) (λ (t : Turn Past). Inv z (on_past m n t).after) (λ e. inv_same z m v n)
        (λ e. let a = none_of (code_fault z.kinds 0 acts) (first_of planning stepping) e in
        let b = none_of planning stepping a.1 in
        inv_enters acts rs (coded z.kinds 0 acts a.0) b.0 caps output b.1)

    same_fault : (o : Option Refusal) → code_fault z.kinds 0 acts ≡ o → first_of o (first_of (deeds_fault z.kinds n 0 acts (book z es)) stepping) ≡ first_of o (first_of planning stepping)
    same_fault (Some f) e = refl
    same_fault None e = ap (λ t. first_of t stepping) (fault_same z few n r.checked acts 0 (put_by es) (struck_by es) (put_by v.all) know rs (coded z.kinds 0 acts e))

    image_carries : carried_out z.kinds (shown z n x) acts caps output ≡ turn_past z n (carries_out z n x acts caps output)
    image_carries =
        unless_same (turn_past z n) (first_of (code_fault z.kinds 0 acts) (first_of planning stepping)) _ (refuse x output []) (enters z n x (planned z n acts (put_by es) (struck_by es)) caps output) _ _ (same_fault (code_fault z.kinds 0 acts) refl) (λ e. refl)
        (λ e. let a = none_of (code_fault z.kinds 0 acts) (first_of planning stepping) e in
        let b = none_of planning stepping a.1 in
        let c = coded z.kinds 0 acts a.0 in
        ap (λ dd. joined_up z.kinds (shown z n x) (map group_of dd) caps output) (deeds_same z few n r.checked acts 0 (put_by es) (struck_by es) (put_by v.all) know rs c b.0)
        ∙ image_enters acts rs c b.0 caps output)

  pub inv_edits : (pen : ℕ) (bytes : List ℕ) (work : Work) (output : List ℕ) → AllByRecursion (λ b. b < 256) bytes → Inv z (on_past m n (edits z n x pen bytes work output)).after
  inv_edits pen bytes work output small =
      unless_both (unread_fault z.kinds n pen bytes) (refuse x output work.items) (carries_out z n x (actions z.kinds bytes) work.capacities output) (λ (t : Turn Past). Inv z (on_past m n t).after) (λ e. inv_same z m v n)
      (λ e. inv_carries (actions z.kinds bytes) (actions_read z.kinds bytes small) work.capacities output)

  pub image_edits : (pen : ℕ) (bytes : List ℕ) (work : Work) (output : List ℕ) → AllByRecursion (λ b. b < 256) bytes → edit z.kinds (shown z n x) pen bytes work output ≡ turn_past z n (edits z n x pen bytes work output)
  image_edits pen bytes work output small =
      unless_same (turn_past z n) (unread_fault z.kinds n pen bytes) _ (refuse x output work.items) (carries_out z n x (actions z.kinds bytes) work.capacities output) _ _ refl (λ e. refl)
      (λ e. image_carries (actions z.kinds bytes) (actions_read z.kinds bytes small) work.capacities output)
