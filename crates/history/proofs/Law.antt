-- The law over runs.
use Rattle.std.proofs.Common.{◌≡◌, ℕ, true, List, [], ◌∷◌, map, sym, refl, ap, ◌∙◌, subst, ap₂}
use Rattle.std.specs.List.{AllByRecursion}
use Rattle.causal.specs.Runs.{has}
use Rattle.stores.specs.Sound.{FewParts}
use Rattle.groups.specs.Groups.{Group, joined}
use Rattle.groups.specs.Limits.{stands_elsewhere}
use Rattle.calls.specs.Holdings.{refusal, Turn}
use Rattle.history.specs.Sets.{◌∈◌}
use Rattle.history.specs.Worlds.{Setting, Call, Bytewise, World}
use Rattle.history.specs.History.{Machine, tells, blank, tale, history, book}
use Rattle.history.specs.Law.{compared, Follows, seen_by, book_after, Entries, Causal, Named, OnePlaced, NeverElsewhere, Joins, RunsKeepHistory}
use Rattle.history.proofs.Histories.{part_puts, book_union}
use Rattle.history.proofs.Invariants.{Inv, inv_blank}
use Rattle.history.proofs.Steps.{closed_now}
use Rattle.history.proofs.Runs.{step_inv, follow, run_inv, run_image}
use Rattle.history.proofs.Meetings.{meets}
use Rattle.history.proofs.Elsewhere.{tells_quiet}
use Rattle.history.proofs.Entries.{entry_lives, living_stands, known_touched, touched_known}

module _ (z : Setting) (few : FewParts z.kinds) where
  follows : Follows z
  follows ks b = follow z few ks b (blank z) (inv_blank z)

  after : (ks : List Call) → AllByRecursion Bytewise ks → Inv z (history z (blank z) ks)
  after ks b = run_inv z few ks b (blank z) (inv_blank z)

  book_is : (ks : List Call) → AllByRecursion Bytewise ks → (q : ℕ) → book_after z ks q ≡ book z (seen_by z ks q)
  book_is ks b q = ap (λ (w : World). (w.replicas q).book) (run_image z few ks b (blank z) (inv_blank z))

  entries : Entries z
  entries = record {
    stands = λ ks b q x m. let v = after ks b in entry_lives z v.all v.sane (seen_by z ks q) (v.pasts q).part x (subst (λ (g : Group). x ∈ g.items) (book_is ks b q) m);
    lives = λ ks b q x l. let v = after ks b in subst (λ (g : Group). x ∈ g.items) (sym (book_is ks b q)) (living_stands z v.all v.sane (seen_by z ks q) (v.pasts q).part x l);
    known = λ ks b q d e. let v = after ks b in known_touched z v.all v.sane (seen_by z ks q) (v.pasts q).part d (subst (λ (g : Group). has g.runs d ≡ true) (book_is ks b q) e);
    touched = λ ks b q d t. let v = after ks b in subst (λ (g : Group). has g.runs d ≡ true) (sym (book_is ks b q)) (touched_known z v.all v.sane (seen_by z ks q) (v.pasts q).part d t);
  }

  causal : Causal z
  causal ks b q e n i k = closed_now z (history z (blank z) ks) (after ks b) q e n i k

  named : Named z
  named ks b q r e f i j n = let v = after ks b in v.named e f ((v.pasts q).part e i) ((v.pasts r).part f j) n

  one_placed : OnePlaced z
  one_placed ks b q r x y i j e =
      let v = after ks b in
      let s = v.sane.one x y (part_puts (seen_by z ks q) v.all (v.pasts q).part x i) (part_puts (seen_by z ks r) v.all (v.pasts r).part y j) e in
      (s.part, s.place)

  quiet : (ks : List Call) → AllByRecursion Bytewise ks → (m : Machine) → Inv z m → AllByRecursion (λ (t : Turn World). (n : ℕ) → t.answer ≡ refusal (stands_elsewhere n) → ⊥) (map (compared z) (tale z m ks))
  quiet [] b m v = tt
  quiet (k ∷ ks) b m v = ((λ n e. tells_quiet z m v k (stands_elsewhere n) e refl), quiet ks b.1 (tells z k m).after (step_inv z few m v k b.0))

  never_elsewhere : NeverElsewhere z
  never_elsewhere ks b = subst (AllByRecursion (λ (t : Turn World). (n : ℕ) → t.answer ≡ refusal (stands_elsewhere n) → ⊥)) (sym (follows ks b)) (quiet ks b (blank z) (inv_blank z))

  joins : Joins z
  joins ks b q r =
      let v = after ks b in
      book_union z v.all v.sane (seen_by z ks q) (seen_by z ks r) (v.pasts q).part (v.pasts r).part
      ∙ ap₂ (joined z.kinds) (sym (book_is ks b q)) (sym (book_is ks b r))

pub runs_keep_history : RunsKeepHistory
runs_keep_history z few = record {
  follows = follows z few;
  entries = entries z few;
  causal = causal z few;
  meets = meets z few;
  named = named z few;
  one_placed = one_placed z few;
  never_elsewhere = never_elsewhere z few;
  joins = joins z few;
}
