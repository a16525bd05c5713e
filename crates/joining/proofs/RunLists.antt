-- Runs that are added one after another, in their order.
use Rattle.std.proofs.Common.{◌≡◌, ℕ, zero, suc, ◌+◌, ◌<◌, ◌≤◌, true, ◌||◌, List, [], ◌∷◌, ◌++◌, length, get_or, take, Some, None, sym, refl, ap, ◌∙◌, subst, arith, length-take}
use Rattle.std.specs.List.{slice_get}
use Rattle.std.proofs.lemmas.List.{take_more}
use Rattle.std.proofs.lemmas.Option.{slice_get-get_or}
use Rattle.std.proofs.lemmas.Bool.{cond-true, cond-false, le-ltb}
use Rattle.std.proofs.Math.Bool.{or_assoc}
use Rattle.causal.specs.declared.dots.Dot.{Dot}
use Rattle.causal.specs.declared.runs.Run.{Run}
use Rattle.contexts.specs.Contexts.{most_runs, too_many, with_run}
use Rattle.causal.specs.Runs.{has, in_run, canonical, union, is_run}
use Rattle.causal.proofs.RunFacts.{Sound, Ahead, Canonical, sound_test, canonical_from}
use Rattle.causal.proofs.RunSets.{ext, has_union, union_canonical}

ahead_take : (r : Run) (n : ℕ) (rs : List Run) → Ahead r rs → Ahead r (take n rs)
ahead_take r zero rs a = tt
ahead_take r (suc n) [] a = tt
ahead_take r (suc n) (s ∷ rs) a = a

pub canonical_take : (n : ℕ) (rs : List Run) → Canonical rs → Canonical (take n rs)
canonical_take zero rs h = tt
canonical_take (suc n) [] h = tt
canonical_take (suc n) (r ∷ rs) h = (h.0, ahead_take r n rs h.1, canonical_take n rs h.2)

last_sound : (rs : List Run) (r : Run) → Canonical (rs ++ (r ∷ [])) → Sound r
last_sound [] r h = h.0
last_sound (q ∷ rs) r h = last_sound rs r h.2

has_after : (rs : List Run) (r : Run) (d : Dot) → has (rs ++ (r ∷ [])) d ≡ (has rs d || has (r ∷ []) d)
has_after [] r d = refl
has_after (q ∷ rs) r d = ap (λ b. in_run q d || b) (has_after rs r d) ∙ sym (or_assoc (in_run q d) (has rs d) (has (r ∷ []) d))

union_last : (rs : List Run) (r : Run) → Canonical rs → Canonical (rs ++ (r ∷ [])) → union rs (r ∷ []) ≡ rs ++ (r ∷ [])
union_last rs r hr ha =
    let one : Canonical (r ∷ []) = (last_sound rs r ha, tt, tt) in
    ext (union rs (r ∷ [])) (rs ++ (r ∷ [])) (union_canonical rs (r ∷ []) hr one) ha
    (λ d. has_union rs (r ∷ []) d hr one ∙ sym (has_after rs r d))

pub nth_last : {X : Type 0} (xs : List X) (i : ℕ) (x : X) → i < length xs → Some x ≡ slice_get xs i → take (i + 1) xs ≡ take i xs ++ (x ∷ [])
nth_last xs i x h e =
    let s : Some x ≡ Some (get_or xs i x) = e ∙ slice_get-get_or xs i x h in
    let q : x ≡ get_or xs i x = cc in
    take_more xs i x h ∙ ap (λ z. take i xs ++ (z ∷ [])) (sym q)

pub collect_more : (rs : List Run) (i : ℕ) (r : Run) → canonical rs ≡ true → length rs ≤ most_runs → i < length rs → Some r ≡ slice_get rs i → with_run (take i rs) r ≡ take (i + 1) rs
collect_more rs i r c few h e =
    let hr = canonical_from rs c in
    let m = nth_last rs i r h e in
    let ha = subst Canonical m (canonical_take (i + 1) rs hr) in
    let u : union (take i rs) (r ∷ []) ≡ take (i + 1) rs = union_last (take i rs) r (canonical_take i rs hr) ha ∙ sym m in
    let l = length-take (i + 1) rs in
    let short : length (take (i + 1) rs) ≤ most_runs = omega arith in
    cond-true (is_run r) _ (take i rs) (sound_test r (last_sound (take i rs) r ha))
    ∙ cond-false (too_many (union (take i rs) (r ∷ []))) (take i rs) (union (take i rs) (r ∷ [])) (ap too_many u ∙ le-ltb most_runs (length (take (i + 1) rs)) short)
    ∙ u

pub no_nth : {X : Type 0} (xs : List X) (i : ℕ) → i < length xs → None ≡ slice_get xs i → ⊥
no_nth [] i h e = omega arith
no_nth (x ∷ xs) i h e = let s : None ≡ Some (get_or (x ∷ xs) i x) = e ∙ slice_get-get_or (x ∷ xs) i x h in let z : ◌≡◌ {A = ℕ} 0 1 = cc in omega arith
