use Rattle.std.proofs.Common.{◌≡◌, ◌+◌, ◌<◌, ◌≤◌, Bool, true, false, not, ◌&&◌, ◌||◌, eqb, ltb, leb, List, [], ◌∷◌, sym, refl, ap, ◌∙◌, ap₂, ⊎_elim, arith}
use Rattle.std.proofs.Math.Bool.{or_comm, or_assoc, or_self}
use Rattle.std.proofs.lemmas.Bool.Decides.{nat_tests}
use Rattle.std.proofs.lemmas.Bool.{or_cases, or_left, false≢true, cases_lt}
use Rattle.causal.specs.declared.dots.Dot.{Dot}
use Rattle.causal.specs.declared.runs.Run.{Run}
use Rattle.causal.specs.Runs.{in_run, has, before, hull, insert, union, canonical, dot}
use Rattle.causal.proofs.RunFacts.{Sound, Ahead, Canonical, canonical_from, canonical_test}

-- a hull of two runs neither of which comes before the other
pub in_hull : (r s : Run) (d : Dot) → Sound r → Sound s → before r s ≡ false → before s r ≡ false → in_run (hull r s) d ≡ (in_run r d || in_run s d)
unfolding in_run before hull
in_hull r s d hr hs e f = grind (arith, nat_tests)

pub before_trans : (q r s : Run) → Sound r → before q r ≡ true → before r s ≡ true → before q s ≡ true
unfolding in_run before hull
before_trans q r s hr e f = grind (arith, nat_tests)

pub before_hull : (q r s : Run) → before q r ≡ true → before q s ≡ true → r.replica ≡ s.replica → before q (hull r s) ≡ true
unfolding in_run before hull
before_hull q r s e f g = grind (arith, nat_tests)

pub one_replica : (r s : Run) → before r s ≡ false → before s r ≡ false → r.replica ≡ s.replica
unfolding in_run before hull
one_replica r s e f = grind (arith, nat_tests)

pub sound_hull : (r s : Run) → Sound r → Sound s → Sound (hull r s)
unfolding in_run before hull
sound_hull r s hr hs = omega arith

pub has_insert : (r : Run) (rs : List Run) (d : Dot) → Sound r → Canonical rs → has (insert r rs) d ≡ (in_run r d || has rs d)
has_insert r [] d hr hc = refl
has_insert r (s ∷ rs) d hr hc =
    let i = has_insert r rs d hr hc.2 in
    let j = has_insert (hull r s) rs d (sound_hull r s hr hc.0) hc.2 in
    let m = in_hull r s d hr hc.0 in
    grind arith

pub ahead_trans : (q s : Run) (rs : List Run) → Sound s → before q s ≡ true → Ahead s rs → Ahead q rs
ahead_trans q s [] hs e a = tt
ahead_trans q s (t ∷ rs) hs e a = before_trans q s t hs e a

-- the three ways of an insertion
insert_ways : (P : List Run → Type 0) (r s : Run) (rs : List Run)
    → (before r s ≡ true → P (r ∷ s ∷ rs))
    → (before r s ≡ false → before s r ≡ true → P (s ∷ insert r rs))
    → (before r s ≡ false → before s r ≡ false → P (insert (hull r s) rs))
    → P (insert r (s ∷ rs))
insert_ways P r s rs f g h = go (before r s) (before s r) f g h
  where
    go : (b c : Bool) → (b ≡ true → P (r ∷ s ∷ rs)) → (b ≡ false → c ≡ true → P (s ∷ insert r rs)) → (b ≡ false → c ≡ false → P (insert (hull r s) rs)) → P (elim b [ true ↦ r ∷ s ∷ rs | false ↦ elim c [ true ↦ s ∷ insert r rs | false ↦ insert (hull r s) rs ] ])
    go true c f g h = f refl
    go false true f g h = g refl refl
    go false false f g h = h refl refl

ahead_insert : (q r : Run) (rs : List Run) → before q r ≡ true → Ahead q rs → Canonical rs → Ahead q (insert r rs)
ahead_insert q r [] e a hc = e
ahead_insert q r (s ∷ rs) e a hc =
    insert_ways (Ahead q) r s rs (λ f. e) (λ f g. a)
    (λ f g. ahead_insert q (hull r s) rs (before_hull q r s e a (one_replica r s f g)) (ahead_trans q s rs hc.0 a hc.1) hc.2)

pub insert_canonical : (r : Run) (rs : List Run) → Sound r → Canonical rs → Canonical (insert r rs)
insert_canonical r [] hr hc = (hr, tt, tt)
insert_canonical r (s ∷ rs) hr hc =
    insert_ways Canonical r s rs (λ f. (hr, f, hc))
    (λ f g. (hc.0, ahead_insert s r rs g hc.1 hc.2, insert_canonical r rs hr hc.2))
    (λ f g. insert_canonical (hull r s) rs (sound_hull r s hr hc.0) hc.2)

pub union_canonical : (xs ys : List Run) → Canonical xs → Canonical ys → Canonical (union xs ys)
union_canonical [] ys hx hy = hy
union_canonical (x ∷ xs) ys hx hy = insert_canonical x (union xs ys) hx.0 (union_canonical xs ys hx.2 hy)

pub has_union : (xs ys : List Run) (d : Dot) → Canonical xs → Canonical ys → has (union xs ys) d ≡ (has xs d || has ys d)
has_union [] ys d hx hy = refl
has_union (x ∷ xs) ys d hx hy =
    has_insert x (union xs ys) d hx.0 (union_canonical xs ys hx.2 hy)
    ∙ ap (λ b. in_run x d || b) (has_union xs ys d hx.2 hy) ∙ sym (or_assoc (in_run x d) (has xs d) (has ys d))

-- the dot d comes after the run r, with one dot between them at least
abbrev past : Run → Dot → Bool
past r d = ltb r.replica d.replica || (eqb r.replica d.replica && ltb (r.last + 1) d.counter)

-- the dot d comes no earlier than the run r begins
abbrev since : Run → Dot → Bool
since r d = ltb r.replica d.replica || (eqb r.replica d.replica && leb r.first d.counter)

past_in : (r s : Run) (d : Dot) → before r s ≡ true → in_run s d ≡ true → past r d ≡ true
unfolding in_run before hull
past_in r s d e f = grind (arith, nat_tests)

since_in : (r : Run) (d : Dot) → in_run r d ≡ true → since r d ≡ true
unfolding in_run before hull
since_in r d e = grind (arith, nat_tests)

since_past : (r : Run) (d : Dot) → Sound r → past r d ≡ true → since r d ≡ true
since_past r d hr e = grind (arith, nat_tests)

not_both : (r : Run) (d : Dot) → past r d ≡ true → in_run r d ≡ true → ⊥
unfolding in_run before hull
not_both r d e f = grind (arith, nat_tests)

rest_past : (r : Run) (rs : List Run) (d : Dot) → Ahead r rs → Canonical rs → has rs d ≡ true → past r d ≡ true
rest_past r [] d a hc h = absurd (false≢true h)
rest_past r (s ∷ rs) d a hc h =
    ⊎_elim (λ e. past_in r s d a e) (λ e. rest_past r rs d (ahead_trans r s rs hc.0 a hc.1) hc.2 e)
    (or_cases (in_run s d) (has rs d) h)

all_since : (r : Run) (rs : List Run) (d : Dot) → Canonical (r ∷ rs) → has (r ∷ rs) d ≡ true → since r d ≡ true
all_since r rs d hc h =
    ⊎_elim (λ e. since_in r d e) (λ e. since_past r d hc.0 (rest_past r rs d hc.1 hc.2 e)) (or_cases (in_run r d) (has rs d) h)

starts : (r : Run) → Sound r → in_run r (dot r.replica r.first) ≡ true
unfolding in_run before hull
starts r hr = grind (arith, nat_tests)

begins : (r : Run) (rs : List Run) → Sound r → has (r ∷ rs) (dot r.replica r.first) ≡ true
begins r rs hr = or_left _ _ (starts r hr)

together : (x y : Run) → since x (dot y.replica y.first) ≡ true → since y (dot x.replica x.first) ≡ true → (x.replica ≡ y.replica) × (x.first ≡ y.first)
together x y e f = grind (arith, nat_tests)

-- where two canonical lists have the same dots and begin alike, the first run of one is no shorter than that of the other
reaches : (x y : Run) → Sound x → Sound y → x.replica ≡ y.replica → x.first ≡ y.first → x.last < y.last → in_run y (dot x.replica (x.last + 1)) ≡ true
unfolding in_run before hull
reaches x y hx hy p q l = grind (arith, nat_tests)

misses : (x : Run) → in_run x (dot x.replica (x.last + 1)) ≡ true → ⊥
unfolding in_run before hull
misses x e = grind (arith, nat_tests)

misses_past : (x : Run) → past x (dot x.replica (x.last + 1)) ≡ true → ⊥
misses_past x e = grind (arith, nat_tests)

no_shorter : (x y : Run) (xs ys : List Run) → Canonical (x ∷ xs) → Canonical (y ∷ ys) → ((d : Dot) → has (x ∷ xs) d ≡ has (y ∷ ys) d) → x.replica ≡ y.replica → x.first ≡ y.first → y.last ≤ x.last
no_shorter x y xs ys hx hy h p q = ⊎_elim (λ l. absurd (out l)) (λ l. l) (cases_lt x.last y.last)
  where
    out : x.last < y.last → ⊥
    out l =
        ⊎_elim (misses x) (λ e. misses_past x (rest_past x xs _ hx.1 hx.2 e))
        (or_cases (in_run x (dot x.replica (x.last + 1))) (has xs (dot x.replica (x.last + 1)))
        (h (dot x.replica (x.last + 1)) ∙ or_left _ _ (reaches x y hx.0 hy.0 p q l)))

run_same : (x y : Run) → x.replica ≡ y.replica → x.first ≡ y.first → x.last ≡ y.last → x ≡ y
run_same x y p q r = λ i. record { replica = p i; first = q i; last = r i }

heads : (x y : Run) (xs ys : List Run) → Canonical (x ∷ xs) → Canonical (y ∷ ys) → ((d : Dot) → has (x ∷ xs) d ≡ has (y ∷ ys) d) → x ≡ y
heads x y xs ys hx hy h =
    let both : (x.replica ≡ y.replica) × (x.first ≡ y.first) =
    together x y
    (all_since x xs (dot y.replica y.first) hx (h _ ∙ begins y ys hy.0))
    (all_since y ys (dot x.replica x.first) hy (sym (h _) ∙ begins x xs hx.0)) in
    let below = no_shorter x y xs ys hx hy h both.0 both.1 in
    let above = no_shorter y x ys xs hy hx (λ d. sym (h d)) (sym both.0) (sym both.1) in
    run_same x y both.0 both.1 (omega arith)

without : (a b : Bool) → (b ≡ true → a ≡ true → ⊥) → b ≡ (not a && (a || b))
without a b f = grind arith

rest : (r : Run) (rs : List Run) (d : Dot) → Canonical (r ∷ rs) → has rs d ≡ (not (in_run r d) && has (r ∷ rs) d)
rest r rs d hc = without (in_run r d) (has rs d) (λ e f. not_both r d (rest_past r rs d hc.1 hc.2 e) f)

pub ext : (xs ys : List Run) → Canonical xs → Canonical ys → ((d : Dot) → has xs d ≡ has ys d) → xs ≡ ys
ext [] [] hx hy h = refl
ext [] (y ∷ ys) hx hy h = absurd (false≢true (h _ ∙ begins y ys hy.0))
ext (x ∷ xs) [] hx hy h = absurd (false≢true (sym (h _) ∙ begins x xs hx.0))
ext (x ∷ xs) (y ∷ ys) hx hy h =
    let e : x ≡ y = heads x y xs ys hx hy h in
    let t : xs ≡ ys = ext xs ys hx.2 hy.2 (λ d. rest x xs d hx ∙ ap₂ (λ a b. not (in_run a d) && b) e (h d) ∙ sym (rest y ys d hy)) in
    ap₂ (λ a b. a ∷ b) e t

pub union_comm : (xs ys : List Run) → Canonical xs → Canonical ys → union xs ys ≡ union ys xs
union_comm xs ys hx hy =
    ext (union xs ys) (union ys xs) (union_canonical xs ys hx hy) (union_canonical ys xs hy hx)
    (λ d. has_union xs ys d hx hy ∙ or_comm (has xs d) (has ys d) ∙ sym (has_union ys xs d hy hx))

pub union_assoc : (xs ys zs : List Run) → Canonical xs → Canonical ys → Canonical zs → union (union xs ys) zs ≡ union xs (union ys zs)
union_assoc xs ys zs hx hy hz =
    let hxy = union_canonical xs ys hx hy in
    let hyz = union_canonical ys zs hy hz in
    ext (union (union xs ys) zs) (union xs (union ys zs)) (union_canonical (union xs ys) zs hxy hz) (union_canonical xs (union ys zs) hx hyz)
    (λ d. rw (has_union (union xs ys) zs d hxy hz, has_union xs ys d hx hy, has_union xs (union ys zs) d hx hyz, has_union ys zs d hy hz)
    (or_assoc (has xs d) (has ys d) (has zs d)))

pub union_idem : (xs : List Run) → Canonical xs → union xs xs ≡ xs
union_idem xs hx = ext (union xs xs) xs (union_canonical xs xs hx hx) hx (λ d. has_union xs xs d hx hx ∙ or_self (has xs d))

pub union_stays_canonical : (xs ys : List Run) → canonical xs ≡ true → canonical ys ≡ true → canonical (union xs ys) ≡ true
union_stays_canonical xs ys hx hy = canonical_test (union xs ys) (union_canonical xs ys (canonical_from xs hx) (canonical_from ys hy))
