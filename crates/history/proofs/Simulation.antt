-- What is shown of the machine goes as the replicas and links go, call by call.
use Rattle.std.proofs.Common.{◌≡◌, ℕ, zero, suc, ◌+◌, ◌-◌, ◌<◌, ◌≤◌, max, Bool, true, false, cond, eqb, ltb, ◌⊎◌, List, [], ◌∷◌, ◌++◌, map, length, take, drop, Some, None, Option, sym, refl, ap, ◌∙◌, ap₂, arith}
use mathlib.Core.List.{map-append}
use Rattle.std.proofs.lemmas.Bool.{eqb-true, cases_lt}
use Rattle.std.specs.List.{slice_get, remove}
use Rattle.refusals.specs.declared.Refusal.{Refusal}
use Rattle.shelves.specs.Parcels.{append_refusal}
use Rattle.records.specs.Written.{written, in_front}
use Rattle.refusals.specs.Table.{refuse_if}
use Rattle.calls.specs.Holdings.{Shelf, Replica, wrote, accepted, Turn, turn, refuse, unless}
use Rattle.calls.specs.Steps.{next_origin}
use Rattle.calls.specs.Faults.{not_kept}
use Rattle.calls.specs.Ships.{appended, sent}
use Rattle.calls.specs.Arrivals.{room_fault}
use Rattle.calls.specs.Links.{lost, repeated}
use Rattle.calls.specs.Reads.{forget}
use Rattle.history.specs.Worlds.{Setting, changed, on_replica, on_link, on_both}
use Rattle.history.specs.History.{Edits, Past, Letter, book, letter_bytes, kept_bytes, posts, loses, repeats, forgets, Machine, on_past, on_post, on_each}
use Rattle.history.specs.Law.{shown, shown_link, image, compared}

pub cond_same : {A B : Type 0} (f : A → B) (b : Bool) (x y : A) → cond b (f x) (f y) ≡ f (cond b x y)
cond_same f true x y = refl
cond_same f false x y = refl

pub unless_same : {A B : Type 0} (f : A → B) (o p : Option Refusal) (g : Refusal → A) (x : A) (u : Refusal → B) (v : B) → p ≡ o → ((e : Refusal) → u e ≡ f (g e)) → (o ≡ None → v ≡ f x) → unless p u v ≡ f (unless o g x)
unless_same f o p g x u v e h q = ap (λ t. unless t u v) e ∙ go o q
  where
    go : (o : Option Refusal) → (o ≡ None → v ≡ f x) → unless o u v ≡ f (unless o g x)
    go None q = q refl
    go (Some t) q = h t

abbrev pub mapped : {A B : Type 0} → (A → B) → Option A → Option B
mapped f None = None
mapped f (Some x) = Some (f x)

pub nth_map : {A B : Type 0} (f : A → B) (xs : List A) (i : ℕ) → slice_get (map f xs) i ≡ mapped f (slice_get xs i)
nth_map f [] i = refl
nth_map f (x ∷ xs) zero = refl
nth_map f (x ∷ xs) (suc i) = nth_map f xs i

take_map : {A B : Type 0} (f : A → B) (n : ℕ) (xs : List A) → take n (map f xs) ≡ map f (take n xs)
take_map f zero xs = refl
take_map f (suc n) [] = refl
take_map f (suc n) (x ∷ xs) = ap (λ l. f x ∷ l) (take_map f n xs)

drop_map : {A B : Type 0} (f : A → B) (n : ℕ) (xs : List A) → drop n (map f xs) ≡ map f (drop n xs)
drop_map f zero xs = refl
drop_map f (suc n) [] = refl
drop_map f (suc n) (x ∷ xs) = drop_map f n xs

removed_map : {A B : Type 0} (f : A → B) (xs : List A) (i : ℕ) → remove (map f xs) i ≡ map f (remove xs i)
removed_map f xs i = ap₂ (λ a b. a ++ b) (take_map f i xs) (drop_map f (suc i) xs) ∙ sym (map-append f (take i xs) (drop (suc i) xs))

module _ (z : Setting) where
  abbrev pub turn_past : ℕ → Turn Past → Turn Replica
  turn_past r t = record { answer = t.answer; after = shown z r t.after; memory = t.memory; work = t.work }

  abbrev pub turn_post : ℕ → Turn (List Letter) → Turn Shelf
  turn_post l t = record { answer = t.answer; after = shown_link z l t.after; memory = t.memory; work = t.work }

  abbrev pub turn_each : ℕ → ℕ → Turn (Past × List Letter) → Turn (Replica × Shelf)
  turn_each r l t = record { answer = t.answer; after = (shown z r t.after.0, shown_link z l t.after.1); memory = t.memory; work = t.work }

  -- from one replica or link to the world

  pasts_shown : (P : ℕ → Past) (r : ℕ) (x : Past) → changed (λ j. shown z j (P j)) r (shown z r x) ≡ (λ j. shown z j (changed P r x j))
  pasts_shown P r x = λ i j. each j (eqb r j) refl i
    where
      each : (j : ℕ) (b : Bool) → eqb r j ≡ b → cond b (shown z r x) (shown z j (P j)) ≡ shown z j (cond b x (P j))
      each j true e = ap (λ n. shown z n x) (eqb-true r j e)
      each j false e = refl

  posts_shown_all : (Q : ℕ → List Letter) (l : ℕ) (ps : List Letter) → changed (λ j. shown_link z j (Q j)) l (shown_link z l ps) ≡ (λ j. shown_link z j (changed Q l ps j))
  posts_shown_all Q l ps = λ i j. each j (eqb l j) refl i
    where
      each : (j : ℕ) (b : Bool) → eqb l j ≡ b → cond b (shown_link z l ps) (shown_link z j (Q j)) ≡ shown_link z j (cond b ps (Q j))
      each j true e = ap (λ n. shown_link z n ps) (eqb-true l j e)
      each j false e = refl

  pub past_world : (m : Machine) (r : ℕ) (u : Turn Replica) (t : Turn Past) → u ≡ turn_past r t → on_replica (image z m) r u ≡ compared z (on_past m r t)
  past_world m r u t e =
      ap (on_replica (image z m) r) e
      ∙ (λ i. record { answer = t.answer; after = record { replicas = pasts_shown m.pasts r t.after i; links = λ l. shown_link z l (m.posts l) }; memory = t.memory; work = t.work })

  pub post_world : (m : Machine) (l : ℕ) (u : Turn Shelf) (t : Turn (List Letter)) → u ≡ turn_post l t → on_link (image z m) l u ≡ compared z (on_post m l t)
  post_world m l u t e =
      ap (on_link (image z m) l) e
      ∙ (λ i. record { answer = t.answer; after = record { replicas = λ r. shown z r (m.pasts r); links = posts_shown_all m.posts l t.after i }; memory = t.memory; work = t.work })

  pub each_world : (m : Machine) (r l : ℕ) (u : Turn (Replica × Shelf)) (t : Turn (Past × List Letter)) → u ≡ turn_each r l t → on_both (image z m) r l u ≡ compared z (on_each m r l t)
  each_world m r l u t e =
      ap (on_both (image z m) r l) e
      ∙ (λ i. record { answer = t.answer; after = record { replicas = pasts_shown m.pasts r t.after.0 i; links = posts_shown_all m.posts l t.after.1 i }; memory = t.memory; work = t.work })

  -- links

  pub post_push : (l : ℕ) (ps : List Letter) (p : Letter) → appended (shown_link z l ps) (letter_bytes z p) ≡ shown_link z l (ps ++ p ∷ [])
  post_push l ps p = λ i. record { sizes = z.links l; parcels = sym (map-append (letter_bytes z) ps (p ∷ [])) i }

  pub post_gone : (l : ℕ) (ps : List Letter) (n : ℕ) → ◌≡◌ {A = Shelf} (record { sizes = z.links l; parcels = remove (map (letter_bytes z) ps) n }) (shown_link z l (remove ps n))
  post_gone l ps n = λ i. record { sizes = z.links l; parcels = removed_map (letter_bytes z) ps n i }

  pub posts_shown : (l : ℕ) (ps : List Letter) (p : Letter) (output : List ℕ) → sent (shown_link z l ps) (letter_bytes z p) output ≡ turn_post l (posts z l ps p output)
  posts_shown l ps p output =
      unless_same (turn_post l) (append_refusal (z.links l) (map (letter_bytes z) ps) (letter_bytes z p)) _ (refuse ps (in_front (letter_bytes z p) output) []) (turn (ps ++ p ∷ []) (in_front (letter_bytes z p) output) [] (wrote (length (letter_bytes z p)))) _ _ refl (λ e. refl)
      (λ e i. record { answer = wrote (length (letter_bytes z p)); after = post_push l ps p i; memory = in_front (letter_bytes z p) output; work = [] })

  pub loses_shown : (l : ℕ) (ps : List Letter) (n : ℕ) (o : Option Letter) → lost (shown_link z l ps) n (mapped (letter_bytes z) o) ≡ turn_post l (loses z ps n o)
  loses_shown l ps n None = refl
  loses_shown l ps n (Some p) = λ i. record { answer = accepted; after = post_gone l ps n i; memory = []; work = [] }

  pub repeats_shown : (l : ℕ) (ps : List Letter) (n : ℕ) (memory : List ℕ) (o : Option Letter) → repeated (shown_link z l ps) n memory (mapped (letter_bytes z) o) ≡ turn_post l (repeats z l ps n memory o)
  repeats_shown l ps n memory None = refl
  repeats_shown l ps n memory (Some p) =
      let bytes = letter_bytes z p in
      let last : Turn (List Letter) = turn (ps ++ p ∷ []) (in_front bytes memory) [] accepted in
      let full = append_refusal (z.links l) (map (letter_bytes z) ps) bytes in
      unless_same (turn_post l) (room_fault bytes memory) _ (refuse ps memory []) (unless full (refuse ps (in_front bytes memory) []) last) _ _ refl (λ e. refl)
      (λ e. unless_same (turn_post l) full _ (refuse ps (in_front bytes memory) []) last _ _ refl (λ e. refl)
      (λ e i. record { answer = accepted; after = post_push l ps p i; memory = in_front bytes memory; work = [] }))

  -- kept groups

  pub kept_push : (r n : ℕ) (ds : List Edits) (d : Edits) → kept_bytes z r n ds ++ written (book z d) (next_origin r (n + length ds)) ∷ [] ≡ kept_bytes z r n (ds ++ d ∷ [])
  kept_push r n [] d = ap (λ k. written (book z d) (next_origin r k) ∷ []) (omega arith)
  kept_push r n (e ∷ ds) d = ap (λ l. written (book z e) (next_origin r n) ∷ l) (ap (λ k. kept_bytes z r (n + 1) ds ++ written (book z d) (next_origin r k) ∷ []) (omega arith) ∙ kept_push r (n + 1) ds d)

  drop_kept : (r n k : ℕ) (ds : List Edits) → drop k (kept_bytes z r n ds) ≡ kept_bytes z r (n + k) (drop k ds)
  drop_kept r n zero ds = ap (λ j. kept_bytes z r j ds) (omega arith)
  drop_kept r n (suc k) [] = refl
  drop_kept r n (suc k) (d ∷ ds) = drop_kept r (n + 1) k ds ∙ ap (λ j. kept_bytes z r j (drop k ds)) (omega arith)

  pub forgets_shown : (r : ℕ) (x : Past) (t : ℕ) → forget (shown z r x) t ≡ turn_past r (forgets z x t)
  forgets_shown r x t =
      unless_same (turn_past r) (refuse_if (ltb x.step t) (not_kept x.forgotten)) _ (refuse x [] []) (turn x' [] [] accepted) _ _ refl (λ e. refl)
      (λ e i. record {
        answer = accepted;
        after = record { number = r; capacities = z.capacities r; book = book z x.seen; deltas = record { sizes = z.deltas r; parcels = left i }; step = x.step; forgotten = max x.forgotten t; heard = x.heard };
        memory = [];
        work = [];
      })
    where
      x' : Past
      x' = record { seen = x.seen; step = x.step; forgotten = max x.forgotten t; heard = x.heard; kept = drop (t - x.forgotten) x.kept }

      left : drop (t - x.forgotten) (kept_bytes z r x.forgotten x.kept) ≡ kept_bytes z r (max x.forgotten t) (drop (t - x.forgotten) x.kept)
      left = drop_kept r x.forgotten (t - x.forgotten) x.kept ∙ go (cases_lt x.forgotten t)
        where
          go : (x.forgotten < t) ⊎ (t ≤ x.forgotten) → kept_bytes z r (x.forgotten + (t - x.forgotten)) (drop (t - x.forgotten) x.kept) ≡ kept_bytes z r (max x.forgotten t) (drop (t - x.forgotten) x.kept)
          go h = ap (λ n. kept_bytes z r n (drop (t - x.forgotten) x.kept)) (omega arith)
