-- The records in bytes, cut one after another.
use Rattle.std.proofs.Common.{◌≡◌, ℕ, zero, suc, ◌+◌, ◌*◌, ◌/◌, ◌<◌, ltb, List, length, get_or, take, drop, replicate, Some, None, Option, unwrap_or, Bor, sym, refl, ap, ◌∙◌, arith}
use Rattle.std.specs.Option.{option_copied}
use Rattle.std.specs.Simd.{first_chunks}
use Rattle.std.specs.Slice.{IsItemAt}
use Rattle.std.proofs.lemmas.List.{drop-drop}
use Rattle.std.proofs.lemmas.Bool.{cond-true, cond-false, lt-ltb, le-ltb}
use Rattle.records.specs.Records.{record_at}

-- the record n of the first k
pub cut_at : (k n : ℕ) (bytes d : List ℕ) → n < k → get_or (first_chunks 24 k bytes) n d ≡ take 24 (drop (24 * n) bytes)
cut_at zero n bytes d h = absurd (omega arith)
cut_at (suc k) zero bytes d h = refl
cut_at (suc k) (suc n) bytes d h =
    let e : 24 + 24 * n ≡ 24 * suc n = omega arith in
    cut_at k n (drop 24 bytes) d (omega arith) ∙ ap (take 24) (drop-drop (24 * n) 24 bytes ∙ ap (λ m. drop m bytes) e)

-- the record that a look-up finds, or 24 bytes 0
pub looked_up : (bytes : List ℕ) (n : ℕ) (cuts : List (List ℕ)) (r : Option (Bor (List ℕ))) → cuts ≡ first_chunks 24 (length bytes / 24) bytes → length cuts ≡ length bytes / 24 → IsItemAt cuts n r
    → unwrap_or (option_copied r) (replicate 24 0) ≡ record_at n bytes
looked_up bytes n cuts (Some x) e l h =
    let w : n < length bytes / 24 = omega (arith, l, h.3.0) in
    h.1 ∙ ap (λ xs. get_or xs n x.now) e ∙ cut_at (length bytes / 24) n bytes x.now w ∙ sym (cond-true (ltb n (length bytes / 24)) _ _ (lt-ltb n (length bytes / 24) w))
looked_up bytes n cuts None e l h = sym (cond-false (ltb n (length bytes / 24)) _ _ (le-ltb n (length bytes / 24) (omega (arith, l, h.3))))
