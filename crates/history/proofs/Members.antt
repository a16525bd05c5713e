-- Members of lists.
use Rattle.std.proofs.Common.{◌≡◌, ℕ, zero, suc, Bool, true, false, ◌||◌, ◌⊎◌, List, [], ◌∷◌, ◌++◌, map, length, take, drop, Some, filter, sym, refl, ap, ◌∙◌, subst, inl, inr, ⊎_elim, arith}
use Rattle.std.specs.List.{slice_get, remove, AllByRecursion}
use Rattle.std.proofs.lemmas.Bool.{cond_both, or_left, or_right}
use Rattle.std.proofs.ByRecursion.{all_kept_by}
use Rattle.causal.specs.declared.dots.Dot.{Dot}
use Rattle.causal.specs.Dots.{same_dot}
use Rattle.stores.specs.Items.{Item, Ascends, Apart}
use Rattle.stores.proofs.ItemOrder.{dot_equal, dot_itself}
use Rattle.reading.specs.Reading.{among, dots_of}
use Rattle.history.specs.Sets.{◌∈◌}

pub in_left : {A : Type 0} (x : A) (xs ys : List A) → x ∈ xs → x ∈ (xs ++ ys)
in_left x [] ys m = absurd m
in_left x (y ∷ xs) ys (inl e) = inl e
in_left x (y ∷ xs) ys (inr m) = inr (in_left x xs ys m)

pub in_right : {A : Type 0} (x : A) (xs ys : List A) → x ∈ ys → x ∈ (xs ++ ys)
in_right x [] ys m = m
in_right x (y ∷ xs) ys m = inr (in_right x xs ys m)

pub in_either : {A : Type 0} (x : A) (xs ys : List A) → x ∈ (xs ++ ys) → (x ∈ xs) ⊎ (x ∈ ys)
in_either x [] ys m = inr m
in_either x (y ∷ xs) ys (inl e) = inl (inl e)
in_either x (y ∷ xs) ys (inr m) = ⊎_elim (λ n. inl (inr n)) (λ n. inr n) (in_either x xs ys m)

pub nil_right : {A : Type 0} (xs : List A) → xs ++ [] ≡ xs
nil_right [] = refl
nil_right (x ∷ xs) = ap (λ l. x ∷ l) (nil_right xs)

pub all_at : {A : Type 0} (P : A → Type 0) (xs : List A) (x : A) → AllByRecursion P xs → x ∈ xs → P x
all_at P [] x p m = absurd m
all_at P (y ∷ xs) x p (inl e) = subst P (sym e) p.0
all_at P (y ∷ xs) x p (inr m) = all_at P xs x p.1 m

pub all_from : {A : Type 0} (P : A → Type 0) (xs : List A) → ((x : A) → x ∈ xs → P x) → AllByRecursion P xs
all_from P [] h = tt
all_from P (x ∷ xs) h = (h x (inl refl), all_from P xs (λ y m. h y (inr m)))

pub all_left : {A : Type 0} (P : A → Type 0) (xs ys : List A) → AllByRecursion P (xs ++ ys) → AllByRecursion P xs
all_left P xs ys p = all_from P xs (λ x m. all_at P (xs ++ ys) x p (in_left x xs ys m))

pub all_right : {A : Type 0} (P : A → Type 0) (xs ys : List A) → AllByRecursion P (xs ++ ys) → AllByRecursion P ys
all_right P xs ys p = all_from P ys (λ x m. all_at P (xs ++ ys) x p (in_right x xs ys m))

pub all_both : {A : Type 0} (P : A → Type 0) (xs ys : List A) → AllByRecursion P xs → AllByRecursion P ys → AllByRecursion P (xs ++ ys)
all_both P [] ys p q = q
all_both P (x ∷ xs) ys p q = (p.0, all_both P xs ys p.1 q)

pub in_kept : {A : Type 0} (t : A → Bool) (xs : List A) (x : A) → x ∈ filter t xs → (x ∈ xs) × (t x ≡ true)
in_kept t [] x m = absurd m
in_kept t (y ∷ xs) x m =
    let i = in_kept t xs x in
    cond_both (t y) _ _ (λ l. x ∈ l → (x ∈ (y ∷ xs)) × (t x ≡ true)) (λ e m. ⊎_elim (λ p. (inl p, ap t p ∙ e)) (λ n. (inr (i n).0, (i n).1)) m) (λ e m. (inr (i m).0, (i m).1)) m

pub in_map : {A B : Type 0} (f : A → B) (xs : List A) (y : B) → y ∈ map f xs → (x : A) × (x ∈ xs) × (y ≡ f x)
in_map f [] y m = absurd m
in_map f (x ∷ xs) y (inl e) = (x, inl refl, e)
in_map f (x ∷ xs) y (inr m) = let i = in_map f xs y m in (i.0, inr i.1, i.2)

pub map_in : {A B : Type 0} (f : A → B) (xs : List A) (x : A) → x ∈ xs → f x ∈ map f xs
map_in f [] x m = m
map_in f (y ∷ xs) x (inl e) = inl (ap f e)
map_in f (y ∷ xs) x (inr m) = inr (map_in f xs x m)

pub in_take : {A : Type 0} (x : A) (n : ℕ) (xs : List A) → x ∈ take n xs → x ∈ xs
in_take x zero xs m = absurd m
in_take x (suc n) [] m = m
in_take x (suc n) (y ∷ xs) m = ⊎_elim (λ e. inl e) (λ k. inr (in_take x n xs k)) m

pub in_drop : {A : Type 0} (x : A) (n : ℕ) (xs : List A) → x ∈ drop n xs → x ∈ xs
in_drop x zero xs m = m
in_drop x (suc n) [] m = m
in_drop x (suc n) (y ∷ xs) m = inr (in_drop x n xs m)

pub in_removed : {A : Type 0} (xs : List A) (i : ℕ) (x : A) → x ∈ remove xs i → x ∈ xs
in_removed xs i x m = ⊎_elim (λ k. in_take x i xs k) (λ k. in_drop x (suc i) xs k) (in_either x (take i xs) (drop (suc i) xs) m)

pub in_nth : {A : Type 0} (x : A) (xs : List A) (i : ℕ) → slice_get xs i ≡ Some x → x ∈ xs
in_nth x [] i e = let o : ◌≡◌ {A = ℕ} 0 1 = cc in absurd (omega arith)
in_nth x (y ∷ xs) zero e = inl (cc)
in_nth x (y ∷ xs) (suc i) e = inr (in_nth x xs i e)

pub nth_end : {A : Type 0} (xs : List A) (x : A) → slice_get (xs ++ x ∷ []) (length xs) ≡ Some x
nth_end [] x = refl
nth_end (y ∷ xs) x = nth_end xs x

or_assoc : (a b c : Bool) → ((a || b) || c) ≡ (a || (b || c))
or_assoc true b c = refl
or_assoc false b c = refl

pub among_append : (ds es : List Dot) (d : Dot) → among d (ds ++ es) ≡ (among d ds || among d es)
among_append [] es d = refl
among_append (x ∷ ds) es d = ap (λ b. same_dot x d || b) (among_append ds es d) ∙ sym (or_assoc (same_dot x d) (among d ds) (among d es))

pub among_in : (ds : List Dot) (d : Dot) → d ∈ ds → among d ds ≡ true
among_in [] d m = absurd m
among_in (e ∷ ds) d (inl p) = or_left _ _ (ap (λ v. same_dot v d) (sym p) ∙ dot_itself d)
among_in (e ∷ ds) d (inr m) = or_right _ _ (among_in ds d m)

pub in_among : (ds : List Dot) (d : Dot) → among d ds ≡ true → d ∈ ds
in_among [] d e = let o : ◌≡◌ {A = Bool} false true = e in let p : ◌≡◌ {A = ℕ} 0 1 = cc in absurd (omega arith)
in_among (x ∷ ds) d e = go (same_dot x d) refl e (in_among ds d)
  where
    go : (b : Bool) → same_dot x d ≡ b → (b || among d ds) ≡ true → (among d ds ≡ true → d ∈ ds) → d ∈ (x ∷ ds)
    go true s e i = inl (sym (dot_equal x d s))
    go false s e i = inr (i e)

pub dots_append : (xs ys : List Item) → dots_of (xs ++ ys) ≡ dots_of xs ++ dots_of ys
dots_append [] ys = refl
dots_append (x ∷ xs) ys = ap (λ l. x.dot ∷ l) (dots_append xs ys)

pub kept_ascends : (t : Item → Bool) (xs : List Item) → Ascends xs → Ascends (filter t xs)
kept_ascends t [] a = tt
kept_ascends t (x ∷ xs) a = cond_both (t x) _ _ Ascends (λ e. (all_kept_by t _ xs a.0, kept_ascends t xs a.1)) (λ e. kept_ascends t xs a.1)

pub kept_apart : (t : Item → Bool) (xs : List Item) → Apart xs → Apart (filter t xs)
kept_apart t [] a = tt
kept_apart t (x ∷ xs) a = cond_both (t x) _ _ Apart (λ e. (all_kept_by t _ xs a.0, kept_apart t xs a.1)) (λ e. kept_apart t xs a.1)
