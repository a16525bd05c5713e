-- The items of a group enter what its strikes have left: the outcome is the join, and no put lacks room.
use Rattle.std.proofs.Common.{◌≡◌, ℕ, zero, suc, ◌+◌, ◌<◌, ◌≤◌, Bool, true, false, cond, not, ◌&&◌, ◌||◌, eqb, leb, List, [], ◌∷◌, map, length, get_or, drop, is_some, Some, None, Option, sym, refl, ap, ◌∙◌, subst, ap₂, inl, inr, arith}
use Rattle.std.specs.List.{slice_get, AllByRecursion}
use Rattle.std.specs.Option.{option_map}
use Rattle.std.proofs.lemmas.Bool.{cases_Bool, cond-true, cond-false, cond_both, both_ways, lt-leb, and_right, or_right}
use Rattle.causal.specs.declared.dots.Dot.{Dot}
use Rattle.causal.specs.declared.runs.Run.{Run}
use Rattle.causal.specs.Dots.{same_dot}
use Rattle.kinds.specs.Kinds.{ValueKind}
use Rattle.causal.specs.Runs.{has}
use Rattle.stores.specs.declared.entries.Entry.{Entry}
use Rattle.stores.specs.Items.{Item, item_at, has_dot, stands, find, in_part, count_part, merge_dot, insert_item, put_items, Ascends, Apart}
use Rattle.stores.specs.Faults.{bad_address, bad_code}
use Rattle.stores.specs.Laws.{joined_with}
use Rattle.stores.specs.Puts.{is_address, fits_kind, misfit_of, misfit, crowded, full_if, first_of, accept, put_of, put_after}
use Rattle.stores.specs.Sound.{Proper}
use Rattle.stores.proofs.ItemOrder.{dot_equal, dot_itself}
use Rattle.stores.proofs.Held.{absent_stands}
use Rattle.stores.proofs.Stays.{some_none, ascends_kept, apart_kept, ascends_map, apart_map, count_map, merge_recodes, ascends_insert, apart_insert, count_insert}
use Rattle.stores.proofs.Lookups.{find_put, find_absent, some_same}
use Rattle.stores.proofs.Walking.{drop_nth}
use Rattle.groups.specs.Groups.{Group, Formed, meet, joined, join_found}
use Rattle.groups.proofs.Meets.{meet_is_merge}
use Rattle.groups.proofs.Joins.{is_joined}
use Rattle.joining.specs.Questions.{struck}
use Rattle.joining.specs.Strikes.{spared, remaining}
use Rattle.joining.specs.Entering.{shut, enter, enter_all}

-- a look-up finds something where the dot stands
pub found_stands : (d : Dot) (xs : List Item) → is_some (find d xs) ≡ stands d xs
found_stands d [] = refl
found_stands d (x ∷ xs) = go (has_dot d x) (found_stands d xs)
  where
    go : (b : Bool) → is_some (find d xs) ≡ stands d xs → is_some (cond b (Some x) (find d xs)) ≡ (b || stands d xs)
    go true e = refl
    go false e = e

kind_there : (ks : List ValueKind) (p : ℕ) → p < length ks → (k : ValueKind) × (slice_get ks p ≡ Some k)
kind_there [] p h = absurd (omega arith)
kind_there (k ∷ ks) zero h = (k, refl)
kind_there (k ∷ ks) (suc p) h = kind_there ks p (omega arith)

-- counts

count_put : (p : ℕ) (k : ValueKind) (y : Item) (xs : List Item) → count_part p xs ≤ count_part p (put_items k y xs)
count_put p k y xs = cond_both (stands y.dot xs) (map (merge_dot k y) xs) (insert_item y xs) (λ zs. count_part p xs ≤ count_part p zs)
    (λ _. let e = count_map (merge_dot k y) (λ z. (merge_dot k y z).code) (merge_recodes k y) p xs in omega arith)
    (λ _. let e = count_insert p y xs in cond_both (in_part p y) (suc (count_part p xs)) (count_part p xs) (λ n. count_part p (insert_item y xs) ≡ n → count_part p xs ≤ count_part p (insert_item y xs)) (λ _ q. omega arith) (λ _ q. omega arith) e)

count_put_of : (p : ℕ) (o : Option ValueKind) (y : Item) (xs : List Item) → count_part p xs ≤ count_part p (put_of o y xs)
count_put_of p None y xs = omega arith
count_put_of p (Some k) y xs = count_put p k y xs

module _ (ks : List ValueKind) (rs : List Run) where
  count_enter : (p : ℕ) (y : Item) (xs : List Item) → count_part p xs ≤ count_part p (enter ks rs y xs)
  count_enter p y xs = cond_both (shut rs y.dot xs) xs (put_of (slice_get ks y.part) y xs) (λ zs. count_part p xs ≤ count_part p zs) (λ _. omega arith) (λ _. count_put_of p (slice_get ks y.part) y xs)

  count_enters : (p : ℕ) (xs ys : List Item) → count_part p xs ≤ count_part p (enter_all ks rs xs ys)
  count_enters p xs [] = omega arith
  count_enters p xs (y ∷ ys) = let a = count_enter p y xs in let b = count_enters p (enter ks rs y xs) ys in omega arith

  -- a put that may enter has room, and does as entering does
  module _ (caps : List ℕ) (xs ys : List Item) (p : ℕ) (e : Entry ℕ) (good : Proper ks (item_at p e))
      (room : (q : ℕ) → count_part q (enter_all ks rs (enter ks rs (item_at p e) xs) ys) ≤ get_or caps q 0) (free : shut rs e.dot xs ≡ false) where
    entered : enter ks rs (item_at p e) xs ≡ put_of (slice_get ks p) (item_at p e) xs
    entered = cond-false (shut rs e.dot xs) xs (put_of (slice_get ks p) (item_at p e) xs) free

    grown : (k : ValueKind) → slice_get ks p ≡ Some k → stands e.dot xs ≡ false → count_part p (enter ks rs (item_at p e) xs) ≡ suc (count_part p xs)
    grown k n s =
        ap (count_part p) (entered ∙ ap (λ o. put_of o (item_at p e) xs) n ∙ cond-false (stands e.dot xs) (map (merge_dot k (item_at p e)) xs) (insert_item (item_at p e) xs) s)
        ∙ count_insert p (item_at p e) xs ∙ cond-true (in_part p (item_at p e)) (suc (count_part p xs)) (count_part p xs) (own p)
      where
        own : (n : ℕ) → eqb n n ≡ true
        own n = Rattle.std.proofs.lemmas.Bool.eq-eqb n n refl

    uncrowded : (k : ValueKind) → slice_get ks p ≡ Some k → crowded caps xs p e.dot ≡ false
    uncrowded k n = elim (cases_Bool (stands e.dot xs)) [
      | inl t ↦ ap (λ b. not b && leb (get_or caps p 0) (count_part p xs)) t
      | inr f ↦ let a = grown k n f in let b = count_enters p (enter ks rs (item_at p e) xs) ys in let r = room p in
          and_right (not (stands e.dot xs)) (leb (get_or caps p 0) (count_part p xs)) (lt-leb (get_or caps p 0) (count_part p xs) (omega arith))
    ]

    fitting : (k : ValueKind) → slice_get ks p ≡ Some k → misfit ks p e ≡ None
    fitting k n =
        ap (λ o. misfit_of o e) n
        ∙ cond-true (is_address e.place e.dot) (cond (k.fits e.value) None (Some bad_code)) (Some bad_address) good.address
        ∙ cond-true (k.fits e.value) None (Some bad_code) (sym (ap (λ o. fits_kind o e.value) n) ∙ good.fits)

    pub put_enters : put_after ks caps xs p e ≡ enter ks rs (item_at p e) xs
    put_enters =
        let k = kind_there ks p good.placed in
        ap (λ f. accept f (put_of (slice_get ks p) (item_at p e) xs) xs) (ap₂ (λ m b. first_of m (full_if p b)) (fitting k.0 k.1) (uncrowded k.0 k.1)) ∙ sym entered

  pub shut_stays : (y : Item) (xs : List Item) → shut rs y.dot xs ≡ true → enter ks rs y xs ≡ xs
  shut_stays y xs t = cond-true (shut rs y.dot xs) xs (put_of (slice_get ks y.part) y xs) t

  -- order

  put_of_ascends : (o : Option ValueKind) (y : Item) (xs : List Item) → Ascends xs → Ascends (put_of o y xs)
  put_of_ascends None y xs h = h
  put_of_ascends (Some k) y xs h = cond_both (stands y.dot xs) (map (merge_dot k y) xs) (insert_item y xs) Ascends
      (λ _. ascends_map (merge_dot k y) (λ z. (merge_dot k y z).code) (merge_recodes k y) xs h) (λ f. ascends_insert y xs f h)

  put_of_apart : (o : Option ValueKind) (y : Item) (xs : List Item) → Apart xs → Apart (put_of o y xs)
  put_of_apart None y xs h = h
  put_of_apart (Some k) y xs h = cond_both (stands y.dot xs) (map (merge_dot k y) xs) (insert_item y xs) Apart
      (λ _. apart_map (merge_dot k y) (λ z. (merge_dot k y z).code) (merge_recodes k y) xs h) (λ f. apart_insert y xs f h)

  enters_ascend : (xs ys : List Item) → Ascends xs → Ascends (enter_all ks rs xs ys)
  enters_ascend xs [] h = h
  enters_ascend xs (y ∷ ys) h = enters_ascend (enter ks rs y xs) ys (cond_both (shut rs y.dot xs) xs (put_of (slice_get ks y.part) y xs) Ascends (λ _. h) (λ _. put_of_ascends (slice_get ks y.part) y xs h))

  enters_apart : (xs ys : List Item) → Apart xs → Apart (enter_all ks rs xs ys)
  enters_apart xs [] h = h
  enters_apart xs (y ∷ ys) h = enters_apart (enter ks rs y xs) ys (cond_both (shut rs y.dot xs) xs (put_of (slice_get ks y.part) y xs) Apart (λ _. h) (λ _. put_of_apart (slice_get ks y.part) y xs h))

  -- look-ups

  -- what stands at a dot once an item with it has entered, if there is one
  abbrev came : Bool → Option Item → Option Item → Option Item
  came known o None = o
  came known None (Some y) = cond known None (Some y)
  came known (Some x) (Some y) = Some (meet ks x y)

  none_stands : (d : Dot) (xs : List Item) → find d xs ≡ None → stands d xs ≡ false
  none_stands d xs e = sym (found_stands d xs) ∙ ap is_some e

  some_stands : (d : Dot) (xs : List Item) (x : Item) → find d xs ≡ Some x → stands d xs ≡ true
  some_stands d xs x e = sym (found_stands d xs) ∙ ap is_some e

  put_here : (k : ValueKind) (y : Item) (xs : List Item) → find y.dot (put_items k y xs) ≡ Some (joined_with k y (find y.dot xs))
  put_here k y xs = find_put k y xs y.dot ∙ cond-true (same_dot y.dot y.dot) (Some (joined_with k y (find y.dot xs))) (find y.dot xs) (dot_itself y.dot)

  enter_here : (y : Item) (xs : List Item) → Proper ks y → find y.dot (enter ks rs y xs) ≡ came (has rs y.dot) (find y.dot xs) (Some y)
  enter_here y xs good = go (find y.dot xs) refl
    where
      opened : (k : ValueKind) → slice_get ks y.part ≡ Some k → shut rs y.dot xs ≡ false → enter ks rs y xs ≡ put_items k y xs
      opened k n f = cond-false (shut rs y.dot xs) xs (put_of (slice_get ks y.part) y xs) f ∙ ap (λ o. put_of o y xs) n

      go : (o : Option Item) → find y.dot xs ≡ o → find y.dot (enter ks rs y xs) ≡ came (has rs y.dot) o (Some y)
      go None e = elim (cases_Bool (has rs y.dot)) [
        | inl t ↦ ap (find y.dot) (shut_stays y xs (ap₂ (λ a b. a && not b) t (none_stands y.dot xs e))) ∙ e ∙ sym (cond-true (has rs y.dot) None (Some y) t)
        | inr f ↦ let k = kind_there ks y.part good.placed in
            ap (find y.dot) (opened k.0 k.1 (ap (λ a. a && not (stands y.dot xs)) f)) ∙ put_here k.0 y xs ∙ ap (λ o. Some (joined_with k.0 y o)) e
            ∙ sym (cond-false (has rs y.dot) None (Some y) f)
      ]
      go (Some x) e = let k = kind_there ks y.part good.placed in
          ap (find y.dot) (opened k.0 k.1 (and_right (has rs y.dot) (not (stands y.dot xs)) (ap not (some_stands y.dot xs x e)))) ∙ put_here k.0 y xs ∙ ap (λ o. Some (joined_with k.0 y o)) e
          ∙ ap Some (sym (meet_is_merge ks k.0 y x k.1))

  put_of_other : (o : Option ValueKind) (y : Item) (xs : List Item) (d : Dot) → same_dot y.dot d ≡ false → find d (put_of o y xs) ≡ find d xs
  put_of_other None y xs d f = refl
  put_of_other (Some k) y xs d f = find_put k y xs d ∙ cond-false (same_dot y.dot d) (Some (joined_with k y (find d xs))) (find d xs) f

  enter_other : (y : Item) (xs : List Item) (d : Dot) → same_dot y.dot d ≡ false → find d (enter ks rs y xs) ≡ find d xs
  enter_other y xs d f = cond_both (shut rs y.dot xs) xs (put_of (slice_get ks y.part) y xs) (λ zs. find d zs ≡ find d xs) (λ _. refl) (λ _. put_of_other (slice_get ks y.part) y xs d f)

  find_enters : (xs ys : List Item) (d : Dot) → Apart ys → AllByRecursion (Proper ks) ys → find d (enter_all ks rs xs ys) ≡ came (has rs d) (find d xs) (find d ys)
  find_enters xs [] d a g = refl
  find_enters xs (y ∷ ys) d a g = find_enters (enter ks rs y xs) ys d a.1 g.1 ∙ go (has_dot d y) refl
    where
      go : (b : Bool) → has_dot d y ≡ b → came (has rs d) (find d (enter ks rs y xs)) (find d ys) ≡ came (has rs d) (find d xs) (cond b (Some y) (find d ys))
      go true t =
          let same : y.dot ≡ d = dot_equal y.dot d t in
          let gone : find d ys ≡ None = ap (λ c. find c ys) (sym same) ∙ find_absent y.dot ys (absent_stands y.dot ys a.0) in
          ap (came (has rs d) (find d (enter ks rs y xs))) gone
          ∙ subst (λ c. find c (enter ks rs y xs) ≡ came (has rs c) (find c xs) (Some y)) same (enter_here y xs g.0)
      go false f = ap (λ o. came (has rs d) o (find d ys)) (enter_other y xs d f)

neither : (b : Bool) → ◌≡◌ {A = Option Item} (cond b None None) None
neither true = refl
neither false = refl

-- what the strikes leave at a dot
find_remaining : (h : Group) (xs : List Item) (d : Dot) → find d (remaining h xs) ≡ cond (struck h d) None (find d xs)
find_remaining h [] d = sym (neither (struck h d))
find_remaining h (x ∷ xs) d = go (struck h x.dot) (has_dot d x) (find_remaining h xs d) refl refl
  where
    go : (s b : Bool) → find d (remaining h xs) ≡ cond (struck h d) None (find d xs) → struck h x.dot ≡ s → has_dot d x ≡ b → find d (cond (not s) (x ∷ remaining h xs) (remaining h xs)) ≡ cond (struck h d) None (cond b (Some x) (find d xs))
    go true true i e t = let k : struck h d ≡ true = ap (struck h) (sym (dot_equal x.dot d t)) ∙ e in i ∙ cond-true (struck h d) None (find d xs) k ∙ sym (cond-true (struck h d) None (Some x) k)
    go true false i e t = i
    go false true i e t =
        let k : struck h d ≡ false = ap (struck h) (sym (dot_equal x.dot d t)) ∙ e in
        cond-true (has_dot d x) (Some x) (find d (remaining h xs)) t ∙ sym (cond-false (struck h d) None (Some x) k)
    go false false i e t = cond-false (has_dot d x) (Some x) (find d (remaining h xs)) t ∙ i

-- the strikes, and then the entering, give the join
pub enters_join : (ks : List ValueKind) (g h : Group) → Formed ks g → Formed ks h → enter_all ks g.runs (remaining h g.items) h.items ≡ (joined ks g h).items
unfolding struck
enters_join ks g h fg fh =
    is_joined ks g h fg fh (enter_all ks g.runs (remaining h g.items) h.items)
    (enters_ascend ks g.runs (remaining h g.items) h.items (ascends_kept (spared h) g.items fg.ascends))
    (enters_apart ks g.runs (remaining h g.items) h.items (apart_kept (spared h) g.items fg.apart))
    (λ d. find_enters ks g.runs (remaining h g.items) h.items d fh.apart fh.proper
    ∙ ap (λ o. came ks g.runs (has g.runs d) o (find d h.items)) (find_remaining h g.items d)
    ∙ go d (find d g.items) (find d h.items) refl)
  where
    and_true : (b : Bool) → (b && true) ≡ b
    and_true true = refl
    and_true false = refl

    go : (d : Dot) (o p : Option Item) → find d h.items ≡ p → came ks g.runs (has g.runs d) (cond (has h.runs d && not (stands d h.items)) None o) p ≡ join_found ks (has g.runs d) (has h.runs d) o p
    go d None None e = neither (has h.runs d && not (stands d h.items))
    go d (Some x) None e = ap (λ b. cond b None (Some x)) (ap (λ s. has h.runs d && not s) (sym (found_stands d h.items) ∙ ap is_some e) ∙ and_true (has h.runs d))
    go d None (Some y) e = ap (λ o. came ks g.runs (has g.runs d) o (Some y)) (neither (has h.runs d && not (stands d h.items)))
    go d (Some x) (Some y) e = ap (λ o. came ks g.runs (has g.runs d) o (Some y))
        (cond-false (has h.runs d && not (stands d h.items)) None (Some x) (and_right (has h.runs d) (not (stands d h.items)) (ap not (sym (found_stands d h.items) ∙ ap is_some e))))

-- the steps of the loop

pub all_nth : (P : Item → Type 0) (ys : List Item) (i : ℕ) (y : Item) → AllByRecursion P ys → Some y ≡ slice_get ys i → P y
all_nth P [] i y a e = absurd (some_none e)
all_nth P (z ∷ zs) zero y a e = subst P (sym (some_same y z e)) a.0
all_nth P (z ∷ zs) (suc i) y a e = all_nth P zs i y a.1 e

module _ (ks : List ValueKind) (rs : List Run) (caps : List ℕ) (xs ys : List Item) (i : ℕ) (p : ℕ) (e : Entry ℕ) (here : Some (item_at p e) ≡ slice_get ys i) where
  next : enter_all ks rs xs (drop i ys) ≡ enter_all ks rs (enter ks rs (item_at p e) xs) (drop (i + 1) ys)
  next = ap (enter_all ks rs xs) (drop_nth ys i (item_at p e) here)

  pub enter_put : AllByRecursion (Proper ks) ys → ((q : ℕ) → count_part q (enter_all ks rs xs (drop i ys)) ≤ get_or caps q 0) → shut rs e.dot xs ≡ false
      → enter_all ks rs (put_after ks caps xs p e) (drop (i + 1) ys) ≡ enter_all ks rs xs (drop i ys)
  enter_put good room f =
      ap (λ zs. enter_all ks rs zs (drop (i + 1) ys))
      (put_enters ks rs caps xs (drop (i + 1) ys) p e (all_nth (Proper ks) ys i (item_at p e) good here) (λ q. subst (λ zs. count_part q zs ≤ get_or caps q 0) next (room q)) f)
      ∙ sym next

  pub enter_none : shut rs e.dot xs ≡ true → enter_all ks rs xs (drop (i + 1) ys) ≡ enter_all ks rs xs (drop i ys)
  enter_none t = ap (λ zs. enter_all ks rs zs (drop (i + 1) ys)) (sym (shut_stays ks rs (item_at p e) xs t)) ∙ sym next

-- an answer of a store, by whether there is one
pub some_mapped : {X : Type 0} (f : X → Item) (o : Option X) → is_some (option_map f o) ≡ is_some o
some_mapped f None = refl
some_mapped f (Some x) = refl

pub held_told : {X : Type 0} (f : X → Item) (o : Option X) (d : Dot) (xs : List Item) → option_map f o ≡ find d xs → is_some o ≡ stands d xs
held_told f o d xs e = sym (some_mapped f o) ∙ ap is_some e ∙ found_stands d xs

pub shut_told : (rs : List Run) (d : Dot) (xs : List Item) (r : Bool) → has rs d ≡ true → r ≡ stands d xs → not r ≡ shut rs d xs
shut_told rs d xs r t e = ap not e ∙ sym (ap (λ b. b && not (stands d xs)) t)

pub unshut_told : (rs : List Run) (d : Dot) (xs : List Item) → has rs d ≡ false → false ≡ shut rs d xs
unshut_told rs d xs f = sym (ap (λ b. b && not (stands d xs)) f)
