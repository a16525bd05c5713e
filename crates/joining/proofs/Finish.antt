-- The outcome of a join that has room.
use Rattle.std.proofs.Common.{◌≡◌, ℕ, zero, suc, ◌+◌, ◌<◌, ◌≤◌, Bool, true, false, cond, ltb, List, [], ◌∷◌, length, get_or, Some, None, Option, sym, refl, ap, ◌∙◌, subst, ap₂, inl, inr, arith}
use Rattle.std.specs.List.{AllByRecursion}
use Rattle.std.proofs.lemmas.Bool.{cases_lt, cond-false, ltb-false, ne_eqb}
use Rattle.causal.specs.declared.runs.Run.{Run}
use Rattle.contexts.specs.Contexts.{too_many}
use Rattle.kinds.specs.Kinds.{ValueKind}
use Rattle.causal.specs.Runs.{union}
use Rattle.stores.specs.Items.{Item, in_part, count_part}
use Rattle.stores.specs.Sound.{Proper}
use Rattle.stores.proofs.Stays.{some_none, count_first, all_placed}
use Rattle.stores.proofs.Lookups.{some_same}
use Rattle.groups.specs.Groups.{Group, Formed, joined}
use Rattle.groups.proofs.Joins.{joined_formed}
use Rattle.sources.specs.Sources.{book}
use Rattle.joining.specs.Questions.{overfull_from, overfull, fitting_union}
use Rattle.joining.specs.Strikes.{remaining}
use Rattle.joining.specs.Entering.{enter_all}
use Rattle.joining.specs.Outcomes.{first_refusal, outcome_refusal, too_many_runs, unless, after_join}
use Rattle.joining.proofs.EnterSteps.{enters_join}

no_first : (b : Bool) (p : ℕ) (o : Option ℕ) → cond b (Some p) o ≡ None → (b ≡ false) × (o ≡ None)
no_first true p o e = absurd (some_none e)
no_first false p o e = (refl, e)

within_from : (caps : List ℕ) (xs : List Item) (n q : ℕ) → overfull_from caps xs n q ≡ None → (p : ℕ) → q ≤ p → p < q + n → count_part p xs ≤ get_or caps p 0
within_from caps xs zero q e p l m = absurd (omega arith)
within_from caps xs (suc n) q e p l m =
    let s = no_first (ltb (get_or caps q 0) (count_part q xs)) q (overfull_from caps xs n (q + 1)) e in
    elim (cases_lt q p) [
      | inl k ↦ within_from caps xs n (q + 1) s.1 p (omega arith) (omega arith)
      | inr k ↦ let same : q ≡ p = omega arith in subst (λ r. count_part r xs ≤ get_or caps r 0) same (ltb-false (get_or caps q 0) (count_part q xs) s.0)
    ]

count_beyond : (n : ℕ) (xs : List Item) (p : ℕ) → AllByRecursion (λ x. x.part < n) xs → n ≤ p → count_part p xs ≡ 0
count_beyond n [] p a l = refl
count_beyond n (x ∷ xs) p a l =
    let low = a.0 in
    count_first p x xs ∙ cond-false (in_part p x) (suc (count_part p xs)) (count_part p xs) (ne_eqb x.part p (λ e. omega arith)) ∙ count_beyond n xs p a.1 l

-- where no part is overfull, each part has room
pub within_all : (ks : List ValueKind) (caps : List ℕ) (xs : List Item) → AllByRecursion (Proper ks) xs → overfull ks caps xs ≡ None → (p : ℕ) → count_part p xs ≤ get_or caps p 0
within_all ks caps xs a e p = elim (cases_lt p (length ks)) [
  | inl l ↦ within_from caps xs (length ks) 0 e p (omega arith) (omega arith)
  | inr l ↦ let z = count_beyond (length ks) xs p (all_placed ks xs a) l in omega arith
]

-- a union that was made had few enough runs
pub union_made : (rs qs us : List Run) → Some us ≡ fitting_union rs qs → (us ≡ union rs qs) × (too_many (union rs qs) ≡ false)
union_made rs qs us e = go (too_many (union rs qs)) refl e
  where
    go : (b : Bool) → too_many (union rs qs) ≡ b → Some us ≡ cond b None (Some (union rs qs)) → (us ≡ union rs qs) × (too_many (union rs qs) ≡ false)
    go true k e = absurd (some_none e)
    go false k e = (some_same us (union rs qs) e, k)

pub nothing_wrong : (ks : List ValueKind) (caps : List ℕ) (all : Group) → overfull ks caps all.items ≡ None → too_many all.runs ≡ false → outcome_refusal ks caps all ≡ None
nothing_wrong ks caps all e f = ap (λ o. first_refusal o all) e ∙ cond-false (too_many all.runs) (Some too_many_runs) None f

-- the room that entering needs
pub entering_room : (ks : List ValueKind) (caps : List ℕ) (g h : Group) → Formed ks g → Formed ks h → overfull ks caps (joined ks g h).items ≡ None
    → (p : ℕ) → count_part p (enter_all ks g.runs (remaining h g.items) h.items) ≤ get_or caps p 0
entering_room ks caps g h fg fh e p =
    subst (λ xs. count_part p xs ≤ get_or caps p 0) (sym (enters_join ks g h fg fh)) (within_all ks caps (joined ks g h).items (joined_formed ks g h fg fh).proper e p)

-- what was entered and united is the join
pub joined_after : (ks : List ValueKind) (caps : List ℕ) (g h : Group) (xs : List Item) (rs : List Run) → Formed ks g → Formed ks h
    → xs ≡ enter_all ks g.runs (remaining h g.items) h.items → rs ≡ union g.runs h.runs → outcome_refusal ks caps (joined ks g h) ≡ None → book xs rs ≡ after_join ks caps g h
joined_after ks caps g h xs rs fg fh e f n = ap₂ book (e ∙ enters_join ks g h fg fh) f ∙ sym (ap (λ o. unless o (joined ks g h) g) n)
