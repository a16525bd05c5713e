-- Reading a group record by record is the scan of its bytes.
use Rattle.std.proofs.Common.{◌≡◌, ℕ, suc, ◌+◌, ◌-◌, ◌*◌, ◌/◌, ◌<◌, ◌≤◌, min, ltb, List, [], ◌∷◌, ◌++◌, length, take, drop, replicate, Some, None, Ok, Err, Option, sym, refl, ap, ◌∙◌, subst, ap₂, ⊎_elim, arith}
use Rattle.std.proofs.lemmas.List.FromFn.{map-range_with_len_more}
use Rattle.std.proofs.lemmas.List.{drop-drop, map-append, length_push}
use Rattle.std.proofs.lemmas.Bool.{cond-true, cond-false, lt-ltb, le-ltb, cases_lt}
use Rattle.refusals.specs.declared.Refusal.{Refusal}
use Rattle.causal.specs.declared.runs.Run.{Run}
use Rattle.kinds.specs.Kinds.{ValueKind}
use Rattle.causal.specs.Runs.{last}
use Rattle.stores.specs.Items.{Item}
use Rattle.records.specs.declared.record.Origin.{Origin}
use Rattle.records.specs.declared.record.PartEntry.{PartEntry}
use Rattle.records.specs.declared.record.Record.{Record}
use Rattle.records.specs.declared.record.Record.TheVariants.{Entry as of_entry, Run as of_run, Origin as of_origin}
use Rattle.reading.specs.Faults.{stray_dot, no_origin}
use Rattle.reading.specs.Reading.{item_in, record_fault, stray, dots_of, Reading, faulty, complete, scan, first_group, summary}
use Rattle.records.specs.Records.{decoded, record_at}
use Rattle.reading.specs.Stands.{Stand, start, next_fault, next_record, moved, dot_in, dot_at, dots_at, closing, entries_read, closed}
use Rattle.records.proofs.Reading.{decoded_entry}
use Rattle.reading.proofs.Dots.{dot_cut}
use Rattle.reading.proofs.Resume.{resume}
use Rattle.reading.proofs.Stepping.{entry_good, last_more, next_within, next_decoded}

module _ (ks : List ValueKind) (bs : List ℕ) where
  -- the scan from record n on
  abbrev pub going : List Item → List Run → ℕ → Reading
  going xs rs n = scan ks xs rs n (length bs / 24 - n) (drop (24 * n) bs)

  record_there : (n : ℕ) → n < length bs / 24 → take 24 (drop (24 * n) bs) ≡ record_at n bs
  record_there n l = sym (cond-true (ltb n (length bs / 24)) _ (replicate 24 0) (lt-ltb n (length bs / 24) l))

  opened : (xs : List Item) (rs : List Run) (n : ℕ) → n < length bs / 24
      → going xs rs n ≡ resume ks xs rs n (length bs / 24 - (n + 1)) (drop (24 * (n + 1)) bs) (record_fault ks (last xs) rs n (decoded (record_at n bs))) (decoded (record_at n bs))
  opened xs rs n l =
      let m : length bs / 24 - n ≡ suc (length bs / 24 - (n + 1)) = omega arith in
      let d : drop 24 (drop (24 * n) bs) ≡ drop (24 * (n + 1)) bs = let e : 24 * n + 24 ≡ 24 * (n + 1) = omega arith in drop-drop 24 (24 * n) bs ∙ ap (λ k. drop k bs) e in
      ap (λ k. scan ks xs rs n k (drop (24 * n) bs)) m
      ∙ ap₂ (λ b rest. resume ks xs rs n (length bs / 24 - (n + 1)) rest (record_fault ks (last xs) rs n (decoded b)) (decoded b)) (record_there n l) d

  -- where the reader stands that has read xs and rs
  abbrev pub standing : List Item → List Run → Stand
  standing xs rs = record { bytes = bs; at = length xs + length rs; last_item = last xs; runs = rs }

  -- a fault of the next record is that of the scan
  pub going_fault : (xs : List Item) (rs : List Run) (f : Refusal) → Some f ≡ next_fault ks (standing xs rs) → going xs rs (length xs + length rs) ≡ faulty f
  going_fault xs rs f e = ⊎_elim within past (cases_lt (length xs + length rs) (length bs / 24))
    where
      within : length xs + length rs < length bs / 24 → going xs rs (length xs + length rs) ≡ faulty f
      within l =
          let w = cond-true (ltb (length xs + length rs) (length bs / 24)) (record_fault ks (last xs) rs (length xs + length rs) (decoded (record_at (length xs + length rs) bs))) (Some (no_origin (length xs + length rs))) (lt-ltb (length xs + length rs) (length bs / 24) l) in
          opened xs rs (length xs + length rs) l
          ∙ ap (λ o. resume ks xs rs (length xs + length rs) (length bs / 24 - (length xs + length rs + 1)) (drop (24 * (length xs + length rs + 1)) bs) o (decoded (record_at (length xs + length rs) bs))) (sym (e ∙ w))

      past : length bs / 24 ≤ length xs + length rs → going xs rs (length xs + length rs) ≡ faulty f
      past l =
          let w = cond-false (ltb (length xs + length rs) (length bs / 24)) (record_fault ks (last xs) rs (length xs + length rs) (decoded (record_at (length xs + length rs) bs))) (Some (no_origin (length xs + length rs))) (le-ltb (length xs + length rs) (length bs / 24) l) in
          let z : length bs / 24 - (length xs + length rs) ≡ 0 = omega arith in
          let s : no_origin (length xs + length rs) ≡ f = let q : Some f ≡ Some (no_origin (length xs + length rs)) = e ∙ w in cc in
          ap (λ k. scan ks xs rs (length xs + length rs) k (drop (24 * (length xs + length rs)) bs)) z ∙ ap faulty s

  -- the next record decides how the scan goes on
  going_on : (xs : List Item) (rs : List Run) (r : Record) → None ≡ next_fault ks (standing xs rs) → Some r ≡ next_record (next_fault ks (standing xs rs)) (standing xs rs)
      → going xs rs (length xs + length rs) ≡ resume ks xs rs (length xs + length rs) (length bs / 24 - (length xs + length rs + 1)) (drop (24 * (length xs + length rs + 1)) bs) None (Some r)
  going_on xs rs r e f =
      let n = length xs + length rs in
      let s = standing xs rs in
      let l = next_within ks s e in
      let d = next_decoded ks s r e f in
      let w = cond-true (ltb n (length bs / 24)) (record_fault ks (last xs) rs n (decoded (record_at n bs))) (Some (no_origin n)) (lt-ltb n (length bs / 24) l) in
      opened xs rs n l ∙ ap₂ (λ o p. resume ks xs rs n (length bs / 24 - (n + 1)) (drop (24 * (n + 1)) bs) o p) (sym (e ∙ w)) d

  -- what a reader that stands at s has read
  pub record SoFar (s : Stand) : Type 0 where
    pub items : List Item
    pub runs : List Run
    pub stands : s ≡ standing items runs
    pub scans : going items runs (length items + length runs) ≡ first_group ks bs
    pub dots : dots_at bs (length items) ≡ dots_of items
    pub within : length items + length runs ≤ length bs / 24

  pub so_far_start : (s : Stand) → s ≡ start bs → SoFar s
  so_far_start s e =
      let k : length bs / 24 - 0 ≡ length bs / 24 = omega arith in
      record { items = []; runs = []; stands = e; scans = ap (λ k. scan ks [] [] 0 k bs) k; dots = refl; within = omega arith }

  -- the dot of an entry that is read stands in the bytes
  dot_there : (n : ℕ) (e : PartEntry) → n < length bs / 24 → decoded (record_at n bs) ≡ Some (of_entry e) → dot_at bs n ≡ e.entry.dot
  dot_there n e l d = sym (dot_cut bs n) ∙ ap dot_in (record_there n l) ∙ ap (λ x. x.entry.dot) (decoded_entry (record_at n bs) e d)

  after_entry : (xs : List Item) (e : PartEntry) → None ≡ next_fault ks (standing xs []) → Some (of_entry e) ≡ next_record (next_fault ks (standing xs [])) (standing xs [])
      → going xs [] (length xs + 0) ≡ first_group ks bs → dots_at bs (length xs) ≡ dots_of xs → SoFar (moved (standing xs []) (of_entry e))
  after_entry xs e p q h k =
      let x = item_in e in
      let l = next_within ks (standing xs []) p in
      let d = next_decoded ks (standing xs []) (of_entry e) p q in
      let m = length_push xs x in
      let n : length xs + 0 + 1 ≡ length (xs ++ (x ∷ [])) + 0 = omega (arith, m) in
      let z : length xs + 0 ≡ length xs = omega arith in
      let there = dot_there (length xs + 0) e l d in
      record {
        items = xs ++ (x ∷ []);
        runs = [];
        stands = λ i. record { bytes = bs; at = n i; last_item = sym (last_more xs x) i; runs = [] };
        scans = sym (ap (going (xs ++ (x ∷ [])) []) n) ∙ sym (going_on xs [] (of_entry e) p q) ∙ h;
        dots = ap (dots_at bs) m ∙ map-range_with_len_more (dot_at bs) 0 (length xs) (length xs) (omega arith) ∙ ap₂ (λ ds y. ds ++ (y ∷ [])) k (ap (dot_at bs) (sym z) ∙ there) ∙ sym (map-append (λ (y : Item). y.dot) xs (x ∷ []));
        within = omega (arith, m);
      }

  after_run : (xs : List Item) (rs : List Run) (r : Run) → None ≡ next_fault ks (standing xs rs) → Some (of_run r) ≡ next_record (next_fault ks (standing xs rs)) (standing xs rs)
      → going xs rs (length xs + length rs) ≡ first_group ks bs → dots_at bs (length xs) ≡ dots_of xs → SoFar (moved (standing xs rs) (of_run r))
  after_run xs rs r p q h k =
      let l = next_within ks (standing xs rs) p in
      let m = length_push rs r in
      let n : length xs + length rs + 1 ≡ length xs + length (rs ++ (r ∷ [])) = omega (arith, m) in
      record {
        items = xs;
        runs = rs ++ (r ∷ []);
        stands = λ i. record { bytes = bs; at = n i; last_item = last xs; runs = rs ++ (r ∷ []) };
        scans = sym (ap (going xs (rs ++ (r ∷ []))) n) ∙ sym (going_on xs rs (of_run r) p q) ∙ h;
        dots = k;
        within = omega (arith, m);
      }

  -- what an entry without a fault tells
  none_before : (xs : List Item) (rs : List Run) (e : PartEntry) → None ≡ next_fault ks (standing xs rs) → Some (of_entry e) ≡ next_record (next_fault ks (standing xs rs)) (standing xs rs) → rs ≡ []
  none_before xs rs e p q =
      let n = length xs + length rs in
      let s = standing xs rs in
      let d = next_decoded ks s (of_entry e) p q in
      let w = cond-true (ltb n (length bs / 24)) (record_fault ks (last xs) rs n (decoded (record_at n bs))) (Some (no_origin n)) (lt-ltb n (length bs / 24) (next_within ks s p)) in
      (entry_good ks (last xs) rs n (item_in e) (sym (p ∙ w ∙ ap (record_fault ks (last xs) rs n) d))).before_runs

  entry_after : (xs : List Item) (rs : List Run) (e : PartEntry) → rs ≡ [] → None ≡ next_fault ks (standing xs rs) → Some (of_entry e) ≡ next_record (next_fault ks (standing xs rs)) (standing xs rs)
      → going xs rs (length xs + length rs) ≡ first_group ks bs → dots_at bs (length xs) ≡ dots_of xs → SoFar (moved (standing xs rs) (of_entry e))
  entry_after xs [] e z p q h k = after_entry xs e p q h k
  entry_after xs (r ∷ rs) e z p q h k = cc

  module _ (s : Stand) (f : SoFar s) (p : None ≡ next_fault ks s) where
    here : None ≡ next_fault ks (standing f.items f.runs)
    here = p ∙ ap (next_fault ks) f.stands

    there : (r : Record) → Some r ≡ next_record (next_fault ks s) s → Some r ≡ next_record (next_fault ks (standing f.items f.runs)) (standing f.items f.runs)
    there r q = q ∙ ap (λ t. next_record (next_fault ks t) t) f.stands

    so_far_entry : (e : PartEntry) → Some (of_entry e) ≡ next_record (next_fault ks s) s → SoFar (moved s (of_entry e))
    so_far_entry e q =
        let u = there (of_entry e) q in
        subst SoFar (ap (λ t. moved t (of_entry e)) (sym f.stands)) (entry_after f.items f.runs e (none_before f.items f.runs e here u) here u f.scans f.dots)

    so_far_run : (r : Run) → Some (of_run r) ≡ next_record (next_fault ks s) s → SoFar (moved s (of_run r))
    so_far_run r q = subst SoFar (ap (λ t. moved t (of_run r)) (sym f.stands)) (after_run f.items f.runs r here (there (of_run r) q) f.scans f.dots)

    so_far_origin : length bs < 18446744073709551616 → (o : Origin) → Some (of_origin o) ≡ next_record (next_fault ks s) s → closed (moved s (of_origin o)) o ≡ summary (first_group ks bs)
    so_far_origin small o q =
        let xs = f.items in
        let rs = f.runs in
        let n = length xs + length rs in
        let t = moved (standing xs rs) (of_origin o) in
        let l = next_within ks (standing xs rs) here in
        let m : entries_read t ≡ length xs = omega (arith, l) in
        let w : min ((n + 1) * 24) 18446744073709551615 ≡ 24 * (n + 1) = omega (arith, l, small) in
        ap (λ v. closed (moved v (of_origin o)) o) f.stands
        ∙ ap (λ k. closing k t o (stray rs [] 0 (dots_at bs k))) m
        ∙ ap (λ ds. closing (length xs) t o (stray rs [] 0 ds)) f.dots
        ∙ told_alike xs rs o n w (stray rs [] 0 (dots_of xs))
        ∙ ap summary (sym (going_on xs rs (of_origin o) here (there (of_origin o) q)) ∙ f.scans)
      where
        told_alike : (xs : List Item) (rs : List Run) (o : Origin) (n : ℕ) → min ((n + 1) * 24) 18446744073709551615 ≡ 24 * (n + 1) → (i : Option ℕ)
            → closing (length xs) (record { bytes = bs; at = n + 1; last_item = last xs; runs = rs }) o i ≡ summary (elim i [ Some k ↦ faulty (stray_dot k) | None ↦ complete (record { items = xs; runs = rs }) o (n + 1) ])
        told_alike xs rs o n w (Some k) = refl
        told_alike xs rs o n w None = λ i. Ok (record { origin = o; entries = length xs; runs = length rs; length = w i })

  pub so_far_fault : (s : Stand) (f : SoFar s) (r : Refusal) → Some r ≡ next_fault ks s → Err r ≡ summary (first_group ks bs)
  so_far_fault s f r p = ap summary (sym (going_fault f.items f.runs r (p ∙ ap (next_fault ks) f.stands)) ∙ f.scans)

  -- where the reader stands at t after a record
  module _ (s t : Stand) (f : SoFar s) (p : None ≡ next_fault ks s) (r : Record) (q : Some r ≡ next_record (next_fault ks s) s) (m : t ≡ moved s r) where
    pub so_far_more : ((o : Origin) → r ≡ of_origin o → ⊥) → SoFar t
    so_far_more no_end = subst SoFar (sym m) (go r q no_end)
      where
        go : (r : Record) → Some r ≡ next_record (next_fault ks s) s → ((o : Origin) → r ≡ of_origin o → ⊥) → SoFar (moved s r)
        go (of_entry e) q no_end = so_far_entry s f p e q
        go (of_run r) q no_end = so_far_run s f p r q
        go (of_origin o) q no_end = absurd (no_end o refl)

    pub so_far_end : length bs < 18446744073709551616 → (o : Origin) → r ≡ of_origin o → closed t o ≡ summary (first_group ks bs)
    so_far_end small o e = ap (λ v. closed v o) (m ∙ ap (moved s) e) ∙ so_far_origin s f p small o (sym (ap Some e) ∙ q)
