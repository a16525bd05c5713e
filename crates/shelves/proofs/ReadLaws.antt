-- What is read of a parcel whose bytes a function of the place gives.
use Rattle.std.proofs.Common.{◌≡◌, ℕ, zero, suc, ◌+◌, ◌-◌, ◌*◌, ◌/◌, ◌<◌, ◌≤◌, cond, leb, List, ◌++◌, map, length, take, drop, replicate, Some, None, Err, Option, MatchOption, sym, refl, ap, ◌∙◌, arith}
use Rattle.std.specs.List.{range_with_len}
use Rattle.refusals.specs.Table.{refused}
use Rattle.shelves.specs.declared.extent.Extent.{Extent}
use Rattle.shelves.specs.Extents.{bytes_at, parcel_in}
use Rattle.shelves.specs.Parcels.{length_of, record_of, copy_answer, copy_memory}
use Rattle.std.proofs.lemmas.List.{append-nil, drop-map}
use Rattle.std.proofs.lemmas.List.FromFn.{take-map-range_with_len, length-map-range_with_len}
use Rattle.std.proofs.lemmas.Option.{MatchOption-at_some, MatchOption-at_none}
use Rattle.std.proofs.lemmas.Bool.{cond-true, cond-false, lt-ltb, le-ltb, lt-leb}

pub drop_counting : (k from n : ℕ) → drop k (range_with_len from n) ≡ range_with_len (from + k) (n - k)
drop_counting zero from n = let a : from + 0 ≡ from = omega arith in let b : n - 0 ≡ n = omega arith in sym (ap (λ x. range_with_len x (n - 0)) a ∙ ap (range_with_len from) b)
drop_counting (suc k) from zero = let b : 0 - suc k ≡ 0 = omega arith in ap (range_with_len (from + suc k)) (sym b)
drop_counting (suc k) from (suc n) =
    let a : from + 1 + k ≡ from + suc k = omega arith in
    let b : n - k ≡ suc n - suc k = omega arith in
    drop_counting k (from + 1) n ∙ ap (λ x. range_with_len x (n - k)) a ∙ ap (range_with_len (from + suc k)) b

pub drop_map_counting : (f : ℕ → ℕ) (k from n : ℕ) → drop k (map f (range_with_len from n)) ≡ map f (range_with_len (from + k) (n - k))
drop_map_counting f k from n = drop-map f k (range_with_len from n) ∙ ap (map f) (drop_counting k from n)

-- the record that is there
pub record_there : (f : ℕ → ℕ) (e p : Extent) (index : ℕ) → index < e.length / 24 → p.from ≡ e.from + 24 * index → p.length ≡ 24
    → bytes_at f p ++ drop p.length (replicate 24 0) ≡ record_of (Some (bytes_at f e)) index
record_there f e p index h from size =
    let l = length-map-range_with_len f e.from e.length in
    let r : take 24 (drop (24 * index) (bytes_at f e)) ≡ map f (range_with_len (e.from + 24 * index) 24) =
    ap (take 24) (drop_map_counting f (24 * index) e.from e.length) ∙ take-map-range_with_len f (e.from + 24 * index) (e.length - 24 * index) 24 (omega arith) in
    ap (λ n. bytes_at f p ++ drop n (replicate 24 0)) size ∙ append-nil _
    ∙ ap (λ n. map f (range_with_len p.from n)) size ∙ ap (λ n. map f (range_with_len n 24)) from
    ∙ sym r ∙ sym (cond-true _ _ _ (lt-ltb index (length (bytes_at f e) / 24) (omega arith)))

pub record_past : (f : ℕ → ℕ) (e : Extent) (index : ℕ) → e.length / 24 ≤ index → replicate 24 0 ≡ record_of (Some (bytes_at f e)) index
record_past f e index h =
    let l = length-map-range_with_len f e.from e.length in
    sym (cond-false _ _ _ (le-ltb index (length (bytes_at f e) / 24) (omega arith)))

-- what `Extent.record` answers
abbrev pub RecordAt : Extent → ℕ → Option Extent → Type 0
RecordAt e index r = MatchOption r (e.length / 24 ≤ index) (λ p. (index < e.length / 24) × (p.from ≡ e.from + 24 * index) × (p.length ≡ 24))

-- the record of a parcel that may be missing
pub record_found : (f : ℕ → ℕ) (o r : Option Extent) (p : Extent) (index : ℕ) {P : Type 0} {Q : Extent → Type 0} → MatchOption o P Q → (P → r ≡ None) → ((e : Extent) → Q e → RecordAt e index r) → r ≡ Some p
    → bytes_at f p ++ drop p.length (replicate 24 0) ≡ record_of (parcel_in f o) index
record_found f None r p index m none some is = absurd (let bad = sym (none m) ∙ is in let z : ◌≡◌ {A = ℕ} 0 1 = cc in omega arith)
record_found f (Some e) r p index m none some is =
    let h = MatchOption-at_some (e.length / 24 ≤ index) (λ q. (index < e.length / 24) × (q.from ≡ e.from + 24 * index) × (q.length ≡ 24)) p is (some e m) in
    record_there f e p index h.0 h.1 h.2

pub record_missing : (f : ℕ → ℕ) (o r : Option Extent) (index : ℕ) {P : Type 0} {Q : Extent → Type 0} → MatchOption o P Q → (P → r ≡ None) → ((e : Extent) → Q e → RecordAt e index r) → r ≡ None
    → replicate 24 0 ≡ record_of (parcel_in f o) index
record_missing f None r index m none some is = refl
record_missing f (Some e) r index m none some is =
    record_past f e index (MatchOption-at_none (e.length / 24 ≤ index) (λ q. (index < e.length / 24) × (q.from ≡ e.from + 24 * index) × (q.length ≡ 24)) is (some e m))

pub by_length_not : {X : Type 0} (f : ℕ → ℕ) (from n size : ℕ) (x y : X) → size < n → cond (leb (length (map f (range_with_len from n))) size) x y ≡ y
by_length_not f from n size x y h = let l = length-map-range_with_len f from n in cond-false _ _ _ (lt-leb (length (map f (range_with_len from n))) size (omega arith))

-- copying: what is answered, and what the memory holds after it
pub answer_short : (f : ℕ → ℕ) (from n position size : ℕ) → size < n → copy_answer (Some (map f (range_with_len from n))) position size ≡ Err (refused 12 n)
answer_short f from n position size h = by_length_not f from n size _ _ h ∙ ap (λ k. Err (refused 12 k)) (length-map-range_with_len f from n)

pub memory_short : (f : ℕ → ℕ) (from n : ℕ) (m : List ℕ) → length m < n → copy_memory (Some (map f (range_with_len from n))) m ≡ m
memory_short f from n m h = by_length_not f from n (length m) _ _ h

-- how many bytes it has, by the extent
pub length_told : (f : ℕ → ℕ) (o : Option Extent) (n : ℕ) {P : Type 0} {Q : Extent → Type 0} → MatchOption o P Q → (P → n ≡ 0) → ((e : Extent) → Q e → n ≡ e.length) → n ≡ length_of (parcel_in f o)
length_told f None n m none some = none m
length_told f (Some e) n m none some = some e m ∙ sym (length-map-range_with_len f e.from e.length)
