-- Walks over the dots of records.
use Rattle.std.proofs.Common.{◌≡◌, ℕ, ◌+◌, ◌*◌, ◌/◌, ◌<◌, ◌≤◌, true, false, cond, not, ◌&&◌, ◌||◌, List, [], ◌∷◌, ◌++◌, map, length, get_or, take, drop, Some, Option, sym, refl, ap, ◌∙◌, ap₂, arith, length-take}
use Rattle.std.specs.List.{list_any}
use Rattle.std.specs.Simd.{first_chunks}
use Rattle.std.proofs.lemmas.List.{length-map, map-append, take_more, at_drop_more, get_or-map, get_or-take, get_or-drop}
use Rattle.std.proofs.lemmas.List.FromFn.{fill_by_all}
use Rattle.causal.specs.declared.dots.Dot.{Dot}
use Rattle.causal.specs.declared.runs.Run.{Run}
use Rattle.causal.specs.Dots.{same_dot}
use Rattle.causal.specs.Runs.{has, dot}
use Rattle.records.proofs.Copying.{cut_at}
use Rattle.reading.specs.Reading.{among, stray}
use Rattle.records.specs.declared.record.Origin.{Origin}
use Rattle.reading.specs.Stands.{Stand, dot_in, dot_at, dots_at, closing, entries_read, closed}

-- a test of each record tells whether the dot is one of theirs
pub any_among : (d : Dot) (cuts : List (List ℕ)) → list_any (λ r. same_dot (dot_in r) d) cuts ≡ among d (map dot_in cuts)
any_among d [] = refl
any_among d (r ∷ cuts) = ap (λ b. same_dot (dot_in r) d || b) (any_among d cuts)

-- the dot in the record n stands in its bytes
pub dot_cut : (bytes : List ℕ) (n : ℕ) → dot_in (take 24 (drop (24 * n) bytes)) ≡ dot_at bytes n
dot_cut bytes n =
    let byte : (k : ℕ) → k < 24 → get_or (take 24 (drop (24 * n) bytes)) k 0 ≡ get_or bytes (24 * n + k) 0 = λ k h. get_or-take 24 (drop (24 * n) bytes) k 0 h ∙ get_or-drop (24 * n) bytes k 0 in
    let e : 24 * n + 5 ≡ 24 * n + 4 + 1 = omega arith in
    let fifth = byte 5 (omega arith) ∙ ap (λ k. get_or bytes k 0) e in
    λ i. dot (byte 2 (omega arith) i) (byte 4 (omega arith) i * 256 + fifth i)

-- and so do those in the first n
pub dots_cut : (bytes : List ℕ) (cuts : List (List ℕ)) (n : ℕ) → cuts ≡ first_chunks 24 (length bytes / 24) bytes → length cuts ≡ length bytes / 24 → n ≤ length bytes / 24 → map dot_in (take n cuts) ≡ dots_at bytes n
dots_cut bytes cuts n e l h =
    let k : length (take n cuts) ≡ n = omega (arith, length-take n cuts) in
    fill_by_all (dot_at bytes) (map dot_in (take n cuts)) n (dot 0 0) (length-map (take n cuts) dot_in ∙ k)
    (λ i w. get_or-map dot_in (take n cuts) i [] (dot 0 0) (omega arith)
    ∙ ap dot_in (get_or-take n cuts i [] w ∙ ap (λ cs. get_or cs i []) e ∙ cut_at (length bytes / 24) i bytes [] (omega arith)) ∙ dot_cut bytes i)

-- what is told where this is the first stray dot of the entries
pub closed_by : (s : Stand) (o : Origin) (cuts : List (List ℕ)) (n : ℕ) (r : Option ℕ) → cuts ≡ first_chunks 24 (length s.bytes / 24) s.bytes → length cuts ≡ length s.bytes / 24 → n ≡ entries_read s
    → r ≡ stray s.runs [] 0 (map dot_in (take n cuts)) → closing n s o r ≡ closed s o
closed_by s o cuts n r e l h f =
    ap (closing n s o) (f ∙ ap (stray s.runs [] 0) (dots_cut s.bytes cuts n e l (omega (arith, h))))
    ∙ ap (λ k. closing k s o (stray s.runs [] 0 (dots_at s.bytes k))) h

-- the first stray dot, where none stands before the record i
module _ (rs : List Run) (cuts : List (List ℕ)) where
  abbrev pub seen : ℕ → List Dot
  seen i = map dot_in (take i cuts)

  abbrev pub from : ℕ → Option ℕ
  from i = stray rs (seen i) i (map dot_in (drop i cuts))

  -- the record i has the dot d
  module _ (i : ℕ) (d : Dot) (h : i < length cuts) (e : d ≡ dot_in (get_or cuts i [])) where
    pub seen_more : seen (i + 1) ≡ seen i ++ (d ∷ [])
    seen_more = ap (map dot_in) (take_more cuts i [] h) ∙ map-append dot_in (take i cuts) (get_or cuts i [] ∷ []) ∙ ap (λ x. seen i ++ (x ∷ [])) (sym e)

    opened : from i ≡ cond (has rs d && not (among d (seen i))) (from (i + 1)) (Some i)
    opened =
        at_drop_more (λ cs. stray rs (seen i) i (map dot_in cs)) cuts i [] h ∙ ap (λ x. stray rs (seen i) i (x ∷ map dot_in (drop (i + 1) cuts))) (sym e)
        ∙ ap (λ ds. cond (has rs d && not (among d (seen i))) (stray rs ds (i + 1) (map dot_in (drop (i + 1) cuts))) (Some i)) (sym seen_more)

    pub passes : has rs d ≡ true → among d (seen i) ≡ false → from (i + 1) ≡ from i
    passes p q = sym (opened ∙ ap₂ (λ b c. cond (b && not c) (from (i + 1)) (Some i)) p q)

    pub in_no_run : has rs d ≡ false → from i ≡ Some i
    in_no_run p = opened ∙ ap (λ b. cond (b && not (among d (seen i))) (from (i + 1)) (Some i)) p

    pub come_before : has rs d ≡ true → among d (seen i) ≡ true → from i ≡ Some i
    come_before p q = opened ∙ ap₂ (λ b c. cond (b && not c) (from (i + 1)) (Some i)) p q
