-- What look-ups find after a put and a strike; lists told by their look-ups; counts that add up.
use Rattle.std.proofs.Common.{◌≡◌, ℕ, zero, suc, ◌+◌, ◌<◌, Bool, true, false, cond, not, eqb, ltb, ◌⊎◌, List, [], ◌∷◌, map, length, Some, None, Option, sym, refl, ap, ◌∙◌, subst, ap₂, inl, inr, arith}
use Rattle.std.specs.List.{slice_get, AllByRecursion}
use Rattle.std.specs.Option.{option_map}
use Rattle.std.proofs.lemmas.Bool.Decides.{nat_tests}
use Rattle.std.proofs.lemmas.Bool.{cases_Bool, cond-true, cond-false, cond_both, or_parts, or_cases, both_ways, le-ltb, lt-ltb}
use Rattle.causal.specs.declared.dots.Dot.{Dot}
use Rattle.causal.specs.Dots.{same_dot}
use Rattle.kinds.specs.Kinds.{ValueKind}
use Rattle.stores.specs.declared.entries.Entry.{Entry}
use Rattle.stores.specs.Items.{Item, item_at, find, has_dot, stands, count_part, merge, merge_dot, insert_item, precedes, put_items, strike_items, Ascends, Apart}
use Rattle.stores.specs.Puts.{put_refusal, accept, put_of, put_after}
use Rattle.stores.specs.Laws.{joined_with, count_parts, PutsChangeOneDot, LookupsTellLists, PartCountsAddUp, CallsKeepOrder}
use Rattle.stores.proofs.ItemOrder.{dot_equal, dot_itself, dot_turned, precedes_transitive, precedes_irreflexive}
use Rattle.stores.proofs.Held.{lacks, absent_stands}
use Rattle.stores.proofs.Stays.{all_placed, cond_out, some_none, merge_recodes, count_first, orderly_none, orderly_put, orderly_strike}

pub cond_split : {X : Type 0} (b : Bool) (u v w : X) → cond b u v ≡ w → ((b ≡ true) × (u ≡ w)) ⊎ ((b ≡ false) × (v ≡ w))
cond_split true u v w e = inl (refl, e)
cond_split false u v w e = inr (refl, e)

pub some_same : {X : Type 0} (x y : X) → Some x ≡ Some y → x ≡ y
some_same x y e = cc

-- what is found

pub found_dot : (d : Dot) (xs : List Item) (x : Item) → find d xs ≡ Some x → has_dot d x ≡ true
found_dot d [] x e = absurd (some_none (sym e))
found_dot d (y ∷ ys) x e = elim (cond_split (has_dot d y) (Some y) (find d ys) (Some x) e)
    [ inl h ↦ ap (has_dot d) (sym (some_same y x h.1)) ∙ h.0 | inr h ↦ found_dot d ys x h.1 ]

pub found_all : (P : Item → Type 0) (d : Dot) (xs : List Item) (x : Item) → AllByRecursion P xs → find d xs ≡ Some x → P x
found_all P d [] x h e = absurd (some_none (sym e))
found_all P d (y ∷ ys) x h e = elim (cond_split (has_dot d y) (Some y) (find d ys) (Some x) e)
    [ inl q ↦ subst P (some_same y x q.1) h.0 | inr q ↦ found_all P d ys x h.1 q.1 ]

pub find_absent : (d : Dot) (xs : List Item) → stands d xs ≡ false → find d xs ≡ None
find_absent d [] h = refl
find_absent d (x ∷ xs) h =
    let o = or_parts (has_dot d x) (stands d xs) h in
    cond-false (has_dot d x) (Some x) (find d xs) o.0 ∙ find_absent d xs o.1

pub find_present : (d : Dot) (xs : List Item) → stands d xs ≡ true → find d xs ≡ None → ⊥
find_present d [] h e = both_ways false refl h
find_present d (x ∷ xs) h e = elim (cond_split (has_dot d x) (Some x) (find d xs) None e) [
  | inl q ↦ some_none q.1
  | inr q ↦ elim (or_cases (has_dot d x) (stands d xs) h) [ inl t ↦ both_ways (has_dot d x) q.0 t | inr t ↦ find_present d xs t q.1 ]
]

pub find_first : (x : Item) (xs : List Item) → find x.dot (x ∷ xs) ≡ Some x
find_first x xs = cond-true (has_dot x.dot x) (Some x) (find x.dot xs) (dot_itself x.dot)

-- a put

find_merged : (k : ValueKind) (x : Item) (d : Dot) (xs : List Item) → find d (map (merge_dot k x) xs) ≡ option_map (merge_dot k x) (find d xs)
find_merged k x d [] = refl
find_merged k x d (y ∷ ys) =
    ap₂ (λ b o. cond b (Some (merge_dot k x y)) o) (ap (has_dot d) (merge_recodes k x y)) (find_merged k x d ys)
    ∙ cond_out (option_map (merge_dot k x)) (has_dot d y) (Some y) (find d ys)

merged_at : (k : ValueKind) (x : Item) (d : Dot) (xs : List Item) → stands x.dot xs ≡ true
    → option_map (merge_dot k x) (find d xs) ≡ cond (same_dot x.dot d) (Some (joined_with k x (find d xs))) (find d xs)
merged_at k x d xs s = go (find d xs) refl
  where
    absent : find d xs ≡ None → same_dot x.dot d ≡ false
    absent e = elim (cases_Bool (same_dot x.dot d))
        [ inl t ↦ absurd (find_present x.dot xs s (ap (λ c. find c xs) (dot_equal x.dot d t) ∙ e)) | inr f ↦ f ]

    go : (o : Option Item) → find d xs ≡ o → option_map (merge_dot k x) o ≡ cond (same_dot x.dot d) (Some (joined_with k x o)) o
    go None e = sym (cond-false (same_dot x.dot d) (Some x) None (absent e))
    go (Some y) e =
        let h : y.dot ≡ d = dot_equal y.dot d (found_dot d xs y e) in
        elim (cases_Bool (same_dot x.dot d)) [
          | inl t ↦ ap Some (cond-true (has_dot x.dot y) (merge k x y) y (ap₂ same_dot h (dot_equal x.dot d t) ∙ dot_itself d))
              ∙ sym (cond-true (same_dot x.dot d) (Some (merge k x y)) (Some y) t)
          | inr f ↦ ap Some (cond-false (has_dot x.dot y) (merge k x y) y (ap (λ c. same_dot c x.dot) h ∙ dot_turned x.dot d f))
              ∙ sym (cond-false (same_dot x.dot d) (Some (merge k x y)) (Some y) f)
        ]

swap_found : (a b : Bool) (x y : Item) (o : Option Item) → (a ≡ true → b ≡ true → ⊥) → cond a (Some y) (cond b (Some x) o) ≡ cond b (Some x) (cond a (Some y) o)
swap_found true true x y o h = absurd (h refl refl)
swap_found true false x y o h = refl
swap_found false true x y o h = refl
swap_found false false x y o h = refl

pub find_insert : (x : Item) (d : Dot) (xs : List Item) → stands x.dot xs ≡ false → find d (insert_item x xs) ≡ cond (same_dot x.dot d) (Some x) (find d xs)
find_insert x d [] s = refl
find_insert x d (y ∷ ys) s =
    let o = or_parts (has_dot x.dot y) (stands x.dot ys) s in
    cond_both (precedes y x) (y ∷ insert_item x ys) (x ∷ y ∷ ys) (λ zs. find d zs ≡ cond (same_dot x.dot d) (Some x) (find d (y ∷ ys)))
    (λ _. ap (cond (has_dot d y) (Some y)) (find_insert x d ys o.1)
    ∙ swap_found (has_dot d y) (same_dot x.dot d) x y (find d ys)
    (λ t u. both_ways (has_dot x.dot y) o.0 (ap₂ same_dot (dot_equal y.dot d t) (dot_equal x.dot d u) ∙ dot_itself d)))
    (λ _. refl)

inserted_at : (k : ValueKind) (x : Item) (d : Dot) (xs : List Item) → stands x.dot xs ≡ false
    → cond (same_dot x.dot d) (Some x) (find d xs) ≡ cond (same_dot x.dot d) (Some (joined_with k x (find d xs))) (find d xs)
inserted_at k x d xs s = elim (cases_Bool (same_dot x.dot d)) [
  | inl t ↦ cond-true (same_dot x.dot d) (Some x) (find d xs) t
      ∙ ap (λ o. Some (joined_with k x o)) (sym (find_absent d xs (ap (λ c. stands c xs) (sym (dot_equal x.dot d t)) ∙ s)))
      ∙ sym (cond-true (same_dot x.dot d) (Some (joined_with k x (find d xs))) (find d xs) t)
  | inr f ↦ cond-false (same_dot x.dot d) (Some x) (find d xs) f ∙ sym (cond-false (same_dot x.dot d) (Some (joined_with k x (find d xs))) (find d xs) f)
]

pub find_put : (k : ValueKind) (x : Item) (xs : List Item) (d : Dot) → find d (put_items k x xs) ≡ cond (same_dot x.dot d) (Some (joined_with k x (find d xs))) (find d xs)
find_put k x xs d = cond_both (stands x.dot xs) (map (merge_dot k x) xs) (insert_item x xs) (λ zs. find d zs ≡ cond (same_dot x.dot d) (Some (joined_with k x (find d xs))) (find d xs))
    (λ t. find_merged k x d xs ∙ merged_at k x d xs t)
    (λ f. find_insert x d xs f ∙ inserted_at k x d xs f)

put_accepted : (ks : List ValueKind) (caps : List ℕ) (xs : List Item) (p : ℕ) (e : Entry ℕ) (k : ValueKind) → slice_get ks p ≡ Some k → put_refusal ks caps xs p e ≡ None → put_after ks caps xs p e ≡ put_items k (item_at p e) xs
put_accepted ks caps xs p e k n r = ap₂ (λ f o. accept f (put_of o (item_at p e) xs) xs) r n

pub puts_change_one_dot : PutsChangeOneDot
puts_change_one_dot = record {
  accepted = λ ks caps xs p e k n r d. ap (find d) (put_accepted ks caps xs p e k n r) ∙ find_put k (item_at p e) xs d;
  refused = λ ks caps xs p e f r. ap (λ o. accept o (put_of (slice_get ks p) (item_at p e) xs) xs) r;
}

-- a strike

under_same : (b : Bool) (x : Item) (o : Option Item) → cond b None o ≡ cond b None (cond b (Some x) o)
under_same true x o = refl
under_same false x o = refl

under_other : (a b : Bool) (x : Item) (o : Option Item) → (a ≡ true → b ≡ true → ⊥) → cond a (Some x) (cond b None o) ≡ cond b None (cond a (Some x) o)
under_other true true x o h = absurd (h refl refl)
under_other true false x o h = refl
under_other false true x o h = refl
under_other false false x o h = refl

pub find_strike : (e : Dot) (xs : List Item) (d : Dot) → find d (strike_items e xs) ≡ cond (same_dot e d) None (find d xs)
find_strike e [] d = cond_both (same_dot e d) None None (λ o. None ≡ o) (λ _. refl) (λ _. refl)
find_strike e (x ∷ xs) d = elim (cases_Bool (has_dot e x)) [
  | inl t ↦ ap (find d) (cond-false (lacks e x) (x ∷ strike_items e xs) (strike_items e xs) (ap not t)) ∙ find_strike e xs d
      ∙ under_same (same_dot e d) x (find d xs)
      ∙ ap (λ c. cond (same_dot e d) None (cond (same_dot c d) (Some x) (find d xs))) (sym (dot_equal x.dot e t))
  | inr f ↦ ap (find d) (cond-true (lacks e x) (x ∷ strike_items e xs) (strike_items e xs) (ap not f))
      ∙ ap (cond (has_dot d x) (Some x)) (find_strike e xs d)
      ∙ under_other (has_dot d x) (same_dot e d) x (find d xs) (λ t u. both_ways (has_dot e x) f (ap₂ same_dot (dot_equal x.dot d t) (dot_equal e d u) ∙ dot_itself d))
]

-- lists told by their look-ups

find_rest : (x : Item) (xs : List Item) (d : Dot) → AllByRecursion (λ y. has_dot x.dot y ≡ false) xs → find d xs ≡ cond (has_dot d x) None (find d (x ∷ xs))
find_rest x xs d a = elim (cases_Bool (has_dot d x)) [
  | inl t ↦ ap (λ c. find c xs) (sym (dot_equal x.dot d t)) ∙ find_absent x.dot xs (absent_stands x.dot xs a) ∙ sym (cond-true (has_dot d x) None (find d (x ∷ xs)) t)
  | inr f ↦ sym (cond-false (has_dot d x) None (find d (x ∷ xs)) f ∙ cond-false (has_dot d x) (Some x) (find d xs) f)
]

heads_same : (x y : Item) (xs ys : List Item) → Ascends (x ∷ xs) → Ascends (y ∷ ys) → find x.dot (y ∷ ys) ≡ Some x → find y.dot (x ∷ xs) ≡ Some y → x ≡ y
heads_same x y xs ys ax ay e f = elim (cond_split (has_dot x.dot y) (Some y) (find x.dot ys) (Some x) e) [
  | inl h ↦ sym (some_same y x h.1)
  | inr h ↦ elim (cond_split (has_dot y.dot x) (Some x) (find y.dot xs) (Some y) f) [
    | inl j ↦ some_same x y j.1
    | inr j ↦ absurd (both_ways (precedes x x) (precedes_irreflexive x)
        (precedes_transitive x y x (found_all (λ z. precedes x z ≡ true) y.dot xs y ax.0 j.1) (found_all (λ z. precedes y z ≡ true) x.dot ys x ay.0 h.1)))
  ]
]

pub lists_same : (xs ys : List Item) → Ascends xs → Ascends ys → Apart xs → Apart ys → ((d : Dot) → find d xs ≡ find d ys) → xs ≡ ys
lists_same [] [] ax ay px py h = refl
lists_same [] (y ∷ ys) ax ay px py h = absurd (some_none (sym (h y.dot ∙ find_first y ys)))
lists_same (x ∷ xs) [] ax ay px py h = absurd (some_none (sym (sym (h x.dot) ∙ find_first x xs)))
lists_same (x ∷ xs) (y ∷ ys) ax ay px py h =
    let e : x ≡ y = heads_same x y xs ys ax ay (sym (h x.dot) ∙ find_first x xs) (h y.dot ∙ find_first y ys) in
    let t : xs ≡ ys = lists_same xs ys ax.1 ay.1 px.1 py.1
    (λ d. find_rest x xs d px.0 ∙ ap₂ (λ z o. cond (has_dot d z) None o) e (h d) ∙ sym (find_rest y ys d py.0)) in
    ap₂ (λ z zs. z ∷ zs) e t

pub lookups_tell_lists : LookupsTellLists
lookups_tell_lists = record {
  found = λ d xs x e. dot_equal x.dot d (found_dot d xs x e);
  same = λ ks ls us vs xs ys h k f. lists_same xs ys h.ascends k.ascends h.apart k.apart f;
}

-- counts

add_step : (p n a b : ℕ) → cond (ltb p n) (suc a) a + cond (eqb p n) (suc b) b ≡ cond (ltb p (suc n)) (suc (a + b)) (a + b)
add_step p n a b = grind (arith, nat_tests)

counts_first : (n : ℕ) (x : Item) (xs : List Item) → count_parts n (x ∷ xs) ≡ cond (ltb x.part n) (suc (count_parts n xs)) (count_parts n xs)
counts_first zero x xs = sym (cond-false (ltb x.part 0) 1 0 (le-ltb x.part 0 (omega arith)))
counts_first (suc n) x xs =
    ap₂ (λ a b. a + b) (counts_first n x xs) (count_first n x xs) ∙ add_step x.part n (count_parts n xs) (count_part n xs)

pub counts_all : (n : ℕ) (xs : List Item) → AllByRecursion (λ x. x.part < n) xs → count_parts n xs ≡ length xs
counts_all n [] h = none n
  where
    none : (m : ℕ) → count_parts m [] ≡ 0
    none zero = refl
    none (suc m) = ap (λ a. a + 0) (none m)
counts_all n (x ∷ xs) h = counts_first n x xs ∙ cond-true (ltb x.part n) (suc (count_parts n xs)) (count_parts n xs) (lt-ltb x.part n h.0) ∙ ap suc (counts_all n xs h.1)

pub part_counts_add_up : PartCountsAddUp
part_counts_add_up ks caps xs h = counts_all (length ks) xs (all_placed ks xs h.proper)

pub calls_keep_order : CallsKeepOrder
calls_keep_order = record {
  none = orderly_none;
  put = orderly_put;
  strike = λ ks caps xs d. orderly_strike ks caps d xs;
}
