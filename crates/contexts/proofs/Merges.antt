-- A merge of two canonical lists gives their union.
use Rattle.std.proofs.Common.{◌≡◌, ℕ, suc, ◌+◌, ◌-◌, ◌<◌, ◌≤◌, min, max, Bool, true, false, cond, ◌||◌, List, [], ◌∷◌, ◌++◌, length, get_or, take, set, sym, refl, ap, ◌∙◌, subst, arith}
use Rattle.std.specs.List.{AllByRecursion}
use Rattle.std.proofs.lemmas.Bool.Decides.{nat_tests}
use Rattle.std.proofs.lemmas.List.{take_more, take_more_set, append_assoc}
use Rattle.std.proofs.lemmas.Bool.{cond_both}
use Rattle.causal.specs.declared.dots.Dot.{Dot}
use Rattle.causal.specs.declared.runs.Run.{Run}
use Rattle.causal.specs.Runs.{in_run, has, before, hull, insert, union, canonical, run}
use Rattle.contexts.specs.Merging.{starts_by, left_next, stretched, extended, Takes}
use Rattle.std.specs.Bool.{MatchBool}
use Rattle.causal.proofs.RunFacts.{Sound, Ahead, Canonical, canonical_from}
use Rattle.causal.proofs.RunSets.{has_insert, insert_canonical, union_canonical, has_union, ext}

not_before : (r s : Run) → Sound r → Sound s → starts_by r s ≡ true → before s r ≡ false
unfolding starts_by before
not_before r s hr hs e = grind (arith, nat_tests)

starts_trans : (q r s : Run) → starts_by q r ≡ true → starts_by r s ≡ true → starts_by q s ≡ true
unfolding starts_by
starts_trans q r s e f = grind (arith, nat_tests)

before_starts : (r s : Run) → Sound r → before r s ≡ true → starts_by r s ≡ true
unfolding starts_by before
before_starts r s hr e = grind (arith, nat_tests)

before_later : (q r s : Run) → before q r ≡ true → starts_by r s ≡ true → before q s ≡ true
unfolding starts_by before
before_later q r s e f = grind (arith, nat_tests)

starts_stretched : (r s w : Run) → starts_by r w ≡ true → starts_by (stretched r s) w ≡ true
unfolding starts_by
starts_stretched r s w e = e

-- where the later run does not stand apart, the hull is the earlier one stretched
hull_stretched : (r s : Run) → starts_by r s ≡ true → before r s ≡ false → hull s r ≡ stretched r s
unfolding starts_by before hull
hull_stretched r s e f =
    let p : s.replica ≡ r.replica = grind (arith, nat_tests) in
    let q : min s.first r.first ≡ r.first = grind (arith, nat_tests) in
    let m : max s.last r.last ≡ max r.last s.last = omega arith in
    λ i. record { replica = p i; first = q i; last = m i }

abbrev pub Late : List Run → Run → Type 0
Late zs r = AllByRecursion (λ z. starts_by z r ≡ true) zs

pub late_extended : (zs : List Run) (r w : Run) → Late zs r → starts_by r w ≡ true → Late (extended zs r) w
late_extended [] r w h e = (e, tt)
late_extended (z ∷ []) r w h e = go (before z r)
  where
    go : (b : Bool) → Late (cond b (z ∷ r ∷ []) (stretched z r ∷ [])) w
    go true = (starts_trans z r w h.0 e, (e, tt))
    go false = (starts_stretched z r w (starts_trans z r w h.0 e), tt)
late_extended (z ∷ y ∷ zs) r w h e = (starts_trans z r w h.0 e, late_extended (y ∷ zs) r w h.1 e)

pub insert_late : (zs : List Run) (r : Run) → Canonical zs → Sound r → Late zs r → insert r zs ≡ extended zs r
insert_late [] r hz hr h = refl
insert_late (z ∷ []) r hz hr h = go (before r z) (before z r) (not_before z r hz.0 hr h.0) (hull_stretched z r h.0)
  where
    go : (b c : Bool) → b ≡ false → (c ≡ false → hull r z ≡ stretched z r) → elim b [ true ↦ r ∷ z ∷ [] | false ↦ elim c [ true ↦ z ∷ r ∷ [] | false ↦ hull r z ∷ [] ] ] ≡ cond c (z ∷ r ∷ []) (stretched z r ∷ [])
    go true c e f = absurd (let n : ◌≡◌ {A = ℕ} 0 1 = cc in omega arith)
    go false true e f = refl
    go false false e f = ap (λ x. x ∷ []) (f refl)
insert_late (z ∷ y ∷ zs) r hz hr h =
    go (before r z) (before z r) (not_before z r hz.0 hr h.0) (before_later z y r hz.1 h.1.0) (insert_late (y ∷ zs) r hz.2 hr h.1)
  where
    go : (b c : Bool) → b ≡ false → c ≡ true → insert r (y ∷ zs) ≡ extended (y ∷ zs) r → elim b [ true ↦ r ∷ z ∷ y ∷ zs | false ↦ elim c [ true ↦ z ∷ insert r (y ∷ zs) | false ↦ insert (hull r z) (y ∷ zs) ] ] ≡ z ∷ extended (y ∷ zs) r
    go true c e f i = absurd (let n : ◌≡◌ {A = ℕ} 0 1 = cc in omega arith)
    go false false e f i = absurd (let n : ◌≡◌ {A = ℕ} 0 1 = cc in omega arith)
    go false true e f i = ap (λ xs. z ∷ xs) i

-- the runs of zs start no later than the first of those left, if there is one
abbrev pub Due : List Run → List Run → Type 0
Due zs [] = Unit {0}
Due zs (r ∷ rs) = Late zs r

-- r starts no later than the first of those left, if there is one
abbrev pub First : Run → List Run → Type 0
First r [] = Unit {0}
First r (s ∷ rs) = starts_by r s ≡ true

-- a merge of xs and ys under way: zs is done, ls and rs are left
pub record Merging (zs ls rs xs ys : List Run) : Type 0 where
  pub done : Canonical zs
  pub left : Canonical ls
  pub right : Canonical rs
  pub due_left : Due zs ls
  pub due_right : Due zs rs
  pub members : (d : Dot) → (has zs d || (has ls d || has rs d)) ≡ (has xs d || has ys d)

all_none : (ls : List Run) → Due [] ls
all_none [] = tt
all_none (l ∷ ls) = tt

pub merging_starts : (xs ys : List Run) → canonical xs ≡ true → canonical ys ≡ true → Merging [] xs ys xs ys
merging_starts xs ys px py = record { done = tt; left = canonical_from xs px; right = canonical_from ys py; due_left = all_none xs; due_right = all_none ys; members = λ d. refl }

or_swap : (a b c : Bool) → (a || (b || c)) ≡ (a || (c || b))
or_swap a b c = grind arith

or_shift : (x z l r : Bool) → ((x || z) || (l || r)) ≡ (z || ((x || l) || r))
or_shift x z l r = grind arith

pub merging_swap : (zs ls rs xs ys : List Run) → Merging zs ls rs xs ys → Merging zs rs ls xs ys
merging_swap zs ls rs xs ys m = record { done = m.done; left = m.right; right = m.left; due_left = m.due_right; due_right = m.due_left; members = λ d. or_swap (has zs d) (has rs d) (has ls d) ∙ m.members d }

due_next : (zs : List Run) (l : Run) (rs : List Run) → Late zs l → First l rs → Due (extended zs l) rs
due_next zs l [] h e = tt
due_next zs l (r ∷ rs) h e = late_extended zs l r h e

ahead_first : (l : Run) (ls : List Run) → Sound l → Ahead l ls → First l ls
ahead_first l [] hl a = tt
ahead_first l (k ∷ ls) hl a = before_starts l k hl a

pub merging_left : (zs : List Run) (l : Run) (ls rs xs ys : List Run) → Merging zs (l ∷ ls) rs xs ys → First l rs → Merging (extended zs l) ls rs xs ys
merging_left zs l ls rs xs ys m f =
    let s = m.left.0 in
    let e = insert_late zs l m.done s m.due_left in
    let k : Canonical (insert l zs) = insert_canonical l zs s m.done in
    record {
      done = rw e at k;
      left = m.left.2;
      right = m.right;
      due_left = due_next zs l ls m.due_left (ahead_first l ls s m.left.1);
      due_right = due_next zs l rs m.due_left f;
      members = λ d. let i = has_insert l zs d s m.done in ap (λ ws. has ws d || (has ls d || has rs d)) (sym e) ∙ ap (λ b. b || (has ls d || has rs d)) i ∙ or_shift (in_run l d) (has zs d) (has ls d) (has rs d) ∙ m.members d;
    }

or_none : (a : Bool) → a ≡ (a || (false || false))
or_none a = grind arith

pub merging_ends : (zs left right xs ys : List Run) → canonical xs ≡ true → canonical ys ≡ true → (left ≡ []) × (right ≡ []) → Merging zs left right xs ys → zs ≡ union xs ys
merging_ends zs left right xs ys px py e m =
    let hx = canonical_from xs px in
    let hy = canonical_from ys py in
    let n : Merging zs [] [] xs ys = subst (λ rs. Merging zs [] rs xs ys) e.1 (subst (λ ls. Merging zs ls right xs ys) e.0 m) in
    ext zs (union xs ys) n.done (union_canonical xs ys hx hy) (λ d. or_none (has zs d) ∙ n.members d ∙ sym (has_union xs ys d hx hy))

-- one more run after a list that ends in r
pub extended_after : (rs : List Run) (r s : Run) → extended (rs ++ (r ∷ [])) s ≡ rs ++ cond (before r s) (r ∷ s ∷ []) (stretched r s ∷ [])
extended_after [] r s = refl
extended_after (q ∷ []) r s = refl
extended_after (q ∷ p ∷ rs) r s = ap (λ xs. q ∷ xs) (extended_after (p ∷ rs) r s)

-- the steps of a merge

left_first : (l : Run) (rs : List Run) (ls : List Run) → left_next (l ∷ ls) rs ≡ true → First l rs
left_first l [] ls e = tt
left_first l (r ∷ rs) ls e = e

starts_other : (r s : Run) → starts_by r s ≡ false → starts_by s r ≡ true
unfolding starts_by
starts_other r s e = grind (arith, nat_tests)

right_first : (r : Run) (rs ls : List Run) → left_next ls (r ∷ rs) ≡ false → First r ls
right_first r rs [] e = tt
right_first r rs (l ∷ ls) e = starts_other l r e

pub merging_next : (zs left right : List Run) (r : Run) (ls rs xs ys : List Run) → Takes left right r ls rs → Merging zs left right xs ys → Merging (extended zs r) ls rs xs ys
merging_next zs left right r ls rs xs ys t m = go (left_next left right) refl t
  where
    go : (b : Bool) → left_next left right ≡ b → MatchBool b ((left ≡ r ∷ ls) × (right ≡ rs)) ((left ≡ ls) × (right ≡ r ∷ rs)) → Merging (extended zs r) ls rs xs ys
    go true e p =
        let n : Merging zs (r ∷ ls) rs xs ys = rw (← p.0, ← p.1) m in
        let f : left_next (r ∷ ls) rs ≡ true = rw (← p.0, ← p.1) e in
        merging_left zs r ls rs xs ys n (left_first r rs ls f)
    go false e p =
        let n : Merging zs ls (r ∷ rs) xs ys = rw (← p.0, ← p.1) m in
        let f : left_next ls (r ∷ rs) ≡ false = rw (← p.0, ← p.1) e in
        merging_swap (extended zs r) rs ls xs ys (merging_left zs r rs ls xs ys (merging_swap zs ls (r ∷ rs) xs ys n) (right_first r rs ls f))

-- one run fewer is left
pub length-taken : (left right : List Run) (r : Run) (ls rs : List Run) → Takes left right r ls rs → length left + length right ≡ suc (length ls + length rs)
length-taken left right r ls rs t = go (left_next left right) t
  where
    go : (b : Bool) → MatchBool b ((left ≡ r ∷ ls) × (right ≡ rs)) ((left ≡ ls) × (right ≡ r ∷ rs)) → length left + length right ≡ suc (length ls + length rs)
    go true p = omega (arith, ap length p.0, ap length p.1)
    go false p = omega (arith, ap length p.0, ap length p.1)

pub length-extended : (zs : List Run) (r : Run) → length (extended zs r) ≤ length zs + 1
length-extended [] r = omega arith
length-extended (z ∷ []) r = cond_both (before z r) _ _ (λ ws. length ws ≤ 2) (λ _. omega arith) (λ _. omega arith)
length-extended (z ∷ y ∷ zs) r = let i = length-extended (y ∷ zs) r in omega arith

-- one more run, in memory whose first n runs are in use

split_last : (rs : List Run) (n : ℕ) → 0 < n → n ≤ length rs → take n rs ≡ take (n - 1) rs ++ (get_or rs (n - 1) (run 0 0 0) ∷ [])
split_last rs n p l =
    let e : (n - 1) + 1 ≡ n = omega arith in
    ap (λ k. take k rs) (sym e) ∙ take_more rs (n - 1) (run 0 0 0) (omega arith)

extended_last : (rs : List Run) (n : ℕ) (s : Run) → 0 < n → n ≤ length rs
    → extended (take n rs) s ≡ take (n - 1) rs ++ cond (before (get_or rs (n - 1) (run 0 0 0)) s) (get_or rs (n - 1) (run 0 0 0) ∷ s ∷ []) (stretched (get_or rs (n - 1) (run 0 0 0)) s ∷ [])
extended_last rs n s p l = ap (λ xs. extended xs s) (split_last rs n p l) ∙ extended_after (take (n - 1) rs) (get_or rs (n - 1) (run 0 0 0)) s

pub stretches : (rs : List Run) (n m : ℕ) (s : Run) → 0 < n → n ≤ length rs → false ≡ before (get_or rs (n - 1) (run 0 0 0)) s → m ≡ max (get_or rs (n - 1) (run 0 0 0)).last s.last
    → take n (set rs (n - 1) (run (get_or rs (n - 1) (run 0 0 0)).replica (get_or rs (n - 1) (run 0 0 0)).first m)) ≡ extended (take n rs) s
stretches rs n m s p l e q =
    let z = get_or rs (n - 1) (run 0 0 0) in
    let k : (n - 1) + 1 ≡ n = omega arith in
    ap (λ i. take i (set rs (n - 1) (run z.replica z.first m))) (sym k)
    ∙ take_more_set rs (n - 1) (run z.replica z.first m) (omega arith)
    ∙ ap (λ x. take (n - 1) rs ++ (run z.replica z.first x ∷ [])) q
    ∙ sym (extended_last rs n s p l ∙ ap (λ b. take (n - 1) rs ++ cond b (z ∷ s ∷ []) (stretched z s ∷ [])) (sym e))

pub stands_apart : (rs : List Run) (n : ℕ) (s : Run) → 0 < n → n < length rs → true ≡ before (get_or rs (n - 1) (run 0 0 0)) s → take (n + 1) (set rs n s) ≡ extended (take n rs) s
stands_apart rs n s p l e =
    let z = get_or rs (n - 1) (run 0 0 0) in
    take_more_set rs n s l
    ∙ ap (λ xs. xs ++ (s ∷ [])) (split_last rs n p (omega arith))
    ∙ append_assoc (take (n - 1) rs) (z ∷ []) (s ∷ [])
    ∙ sym (extended_last rs n s p (omega arith) ∙ ap (λ b. take (n - 1) rs ++ cond b (z ∷ s ∷ []) (stretched z s ∷ [])) (sym e))

pub stands_first : (rs : List Run) (n : ℕ) (s : Run) → n ≤ 0 → n < length rs → take (n + 1) (set rs n s) ≡ extended (take n rs) s
stands_first rs n s p l =
    let e : n ≡ 0 = omega arith in
    take_more_set rs n s l ∙ ap (λ k. take k rs ++ (s ∷ [])) e ∙ sym (ap (λ k. extended (take k rs) s) e)
