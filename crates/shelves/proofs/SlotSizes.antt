-- How many slots there are, and where they lie.
use Rattle.std.proofs.Common.{◌≡◌, ℕ, ◌+◌, ◌*◌, ◌/◌, ◌<◌, ◌≤◌, min, List, ◌++◌, length, get_or, set, sym, ap, ◌∙◌, ⊎_elim, mul-le-mul_right, suc-mul, div-mul-le_self, arith}
use native.Mathlib.Nat.{div-div-eq-div-mul}
use Rattle.std.proofs.lemmas.List.{map-set, map-append, get_or_append_left, length-map, get_or-set_same, get_or-set_other}
use Rattle.std.proofs.lemmas.Bool.{cases_order, cases_eq}
use Rattle.shelves.specs.declared.extent.Extent.{Extent}
use Rattle.shelves.specs.Slotted.{slot_size, slot_count, slot_room, slot_starts, Disjoint}

pub count_is : (n size k m : ℕ) → k ≡ slot_size size → m ≡ min (n / 24 / k) 128 → m ≡ slot_count n size
count_is n size k m e f =
    let d = div-div-eq-div-mul n 24 (slot_size size) in
    let g : n / 24 / k ≡ n / 24 / slot_size size = ap (λ j. n / 24 / j) e in
    omega arith

-- all slots lie in the memory
pub room_fits : (n size : ℕ) → slot_count n size * slot_size size ≤ n / 24
room_fits n size =
    let k = slot_size size in
    let d = div-div-eq-div-mul n 24 k in
    let l : slot_count n size ≤ n / 24 / k = omega arith in
    let a = mul-le-mul_right k l in
    let b = div-mul-le_self (n / 24) k in
    omega arith

pub room_within : (n size : ℕ) → slot_room n size ≤ n
room_within n size = let h = room_fits n size in omega arith

-- a slot ends where the next one begins, or before it
pub slot_ends : (i m k : ℕ) → i < m → i * k + k ≤ m * k
slot_ends i m k h = omega (arith, mul-le-mul_right k h, suc-mul i k)

pub laid_out : (starts : List ℕ) (m k : ℕ) → ((i : ℕ) → i < m → get_or starts i 0 ≡ 24 * (i * k)) → Disjoint starts m (24 * k) (24 * (m * k))
laid_out starts m k e =
    record {
      inside = λ i h. let a = e i h in let b = slot_ends i m k h in omega arith;
      apart = λ i j h l ne. let a = e i h in let b = e j l in
          ⊎_elim (λ z. absurd (ne z)) (⊎_elim (λ lt. let q = slot_ends i j k lt in omega arith) (λ gt. let q = slot_ends j i k gt in omega arith)) (cases_order i j);
    }

-- one slot more
pub lay_more : (slots : List Extent) (e : Extent) (i k : ℕ) → i < length slots → e.from ≡ 24 * (i * k) → ((j : ℕ) → j < i → get_or (slot_starts slots) j 0 ≡ 24 * (j * k))
    → (j : ℕ) → j < i + 1 → get_or (slot_starts (set slots i e)) j 0 ≡ 24 * (j * k)
lay_more slots e i k h is below j l =
    let starts = slot_starts slots in
    let n = length-map slots (λ (x : Extent). x.from) in
    ap (λ xs. get_or xs j 0) (map-set (λ (x : Extent). x.from) slots i e) ∙ ⊎_elim
    (λ z. ap (λ x. get_or (set starts i e.from) x 0) z ∙ get_or-set_same starts i e.from 0 (omega arith) ∙ is ∙ ap (λ x. 24 * (x * k)) (sym z))
    (λ ne. get_or-set_other starts i j e.from 0 ne ∙ below j (omega arith)) (cases_eq j i)

-- the slots in front
pub starts_front : (slots rest : List Extent) (i : ℕ) → i < length slots → get_or (slot_starts (slots ++ rest)) i 0 ≡ get_or (slot_starts slots) i 0
starts_front slots rest i h =
    let n = length-map slots (λ (x : Extent). x.from) in
    ap (λ xs. get_or xs i 0) (map-append (λ (x : Extent). x.from) slots rest) ∙ get_or_append_left (slot_starts slots) (slot_starts rest) 0 i (omega arith)
