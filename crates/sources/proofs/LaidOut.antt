-- Entries and runs by index, in a group that is laid out in records.
use Rattle.std.proofs.Common.{◌≡◌, ℕ, zero, suc, ◌+◌, ◌<◌, ◌≤◌, length, Some, None, Option, sym, refl, ap, ◌∙◌, arith}
use Rattle.std.specs.List.{slice_get}
use Rattle.std.specs.Option.{option_map}
use Rattle.std.proofs.lemmas.Option.{slice_get_past}
use Rattle.causal.specs.declared.runs.Run.{Run}
use Rattle.records.specs.declared.record.PartEntry.{PartEntry}
use Rattle.records.specs.declared.record.Record.{Record}
use Rattle.records.specs.declared.record.Record.TheVariants.{Entry as of_entry, Run as of_run}
use Rattle.reading.specs.Reading.{item_in}
use Rattle.sources.specs.Layouts.{entry_part, run_part, item_then, run_then, items_in, runs_in, group_in, Laid}

abbrev same_run : Option Run → Option Run
same_run o = o

from_zero : (f : ℕ → Option Record) (n : ℕ) → ((i : ℕ) → i < n → (e : PartEntry) × (f i ≡ Some (of_entry e))) → (k : ℕ) → k < n → (e : PartEntry) × (f (0 + k) ≡ Some (of_entry e))
from_zero f n h k l = let z = h k l in let e : 0 + k ≡ k = omega arith in (z.0, ap f e ∙ z.1)

module _ (f : ℕ → Option Record) where
  first_entries : (i n : ℕ) → ((k : ℕ) → k < suc n → (e : PartEntry) × (f (i + k) ≡ Some (of_entry e))) → (e : PartEntry) × (entry_part (f i) ≡ Some e)
  first_entries i n h = let z = h 0 (omega arith) in let e : i ≡ i + 0 = omega arith in (z.0, ap (λ m. entry_part (f m)) e ∙ ap entry_part z.1)

  later_entries : (i n : ℕ) → ((k : ℕ) → k < suc n → (e : PartEntry) × (f (i + k) ≡ Some (of_entry e))) → (k : ℕ) → k < n → (e : PartEntry) × (f (i + 1 + k) ≡ Some (of_entry e))
  later_entries i n h k l = let z = h (k + 1) (omega arith) in let e : i + 1 + k ≡ i + (k + 1) = omega arith in (z.0, ap f e ∙ z.1)

  length_entries : (i n : ℕ) → ((k : ℕ) → k < n → (e : PartEntry) × (f (i + k) ≡ Some (of_entry e))) → length (items_in f i n) ≡ n
  length_entries i zero h = refl
  length_entries i (suc n) h = ap (λ o. length (item_then o (items_in f (i + 1) n))) (first_entries i n h).1 ∙ ap suc (length_entries (i + 1) n (later_entries i n h))

  nth_entries : (i n : ℕ) (k : ℕ) → ((k : ℕ) → k < n → (e : PartEntry) × (f (i + k) ≡ Some (of_entry e))) → k < n → option_map item_in (entry_part (f (i + k))) ≡ slice_get (items_in f i n) k
  nth_entries i zero k h l = absurd (omega arith)
  nth_entries i (suc n) zero h l =
      let z = first_entries i n h in
      let e : i + 0 ≡ i = omega arith in
      ap (λ m. option_map item_in (entry_part (f m))) e ∙ ap (λ o. option_map item_in o) z.1 ∙ sym (ap (λ o. slice_get (item_then o (items_in f (i + 1) n)) 0) z.1)
  nth_entries i (suc n) (suc k) h l =
      let z = first_entries i n h in
      let e : i + suc k ≡ i + 1 + k = omega arith in
      ap (λ m. option_map item_in (entry_part (f m))) e ∙ nth_entries (i + 1) n k (later_entries i n h) (omega arith) ∙ sym (ap (λ o. slice_get (item_then o (items_in f (i + 1) n)) (suc k)) z.1)

  first_runs : (i n : ℕ) → ((k : ℕ) → k < suc n → (r : Run) × (f (i + k) ≡ Some (of_run r))) → (r : Run) × (run_part (f i) ≡ Some r)
  first_runs i n h = let z = h 0 (omega arith) in let e : i ≡ i + 0 = omega arith in (z.0, ap (λ m. run_part (f m)) e ∙ ap run_part z.1)

  later_runs : (i n : ℕ) → ((k : ℕ) → k < suc n → (r : Run) × (f (i + k) ≡ Some (of_run r))) → (k : ℕ) → k < n → (r : Run) × (f (i + 1 + k) ≡ Some (of_run r))
  later_runs i n h k l = let z = h (k + 1) (omega arith) in let e : i + 1 + k ≡ i + (k + 1) = omega arith in (z.0, ap f e ∙ z.1)

  length_runs : (i n : ℕ) → ((k : ℕ) → k < n → (r : Run) × (f (i + k) ≡ Some (of_run r))) → length (runs_in f i n) ≡ n
  length_runs i zero h = refl
  length_runs i (suc n) h = ap (λ o. length (run_then o (runs_in f (i + 1) n))) (first_runs i n h).1 ∙ ap suc (length_runs (i + 1) n (later_runs i n h))

  nth_runs : (i n : ℕ) (k : ℕ) → ((k : ℕ) → k < n → (r : Run) × (f (i + k) ≡ Some (of_run r))) → k < n → same_run (run_part (f (i + k))) ≡ slice_get (runs_in f i n) k
  nth_runs i zero k h l = absurd (omega arith)
  nth_runs i (suc n) zero h l =
      let z = first_runs i n h in
      let e : i + 0 ≡ i = omega arith in
      ap (λ m. same_run (run_part (f m))) e ∙ ap (λ o. same_run o) z.1 ∙ sym (ap (λ o. slice_get (run_then o (runs_in f (i + 1) n)) 0) z.1)
  nth_runs i (suc n) (suc k) h l =
      let z = first_runs i n h in
      let e : i + suc k ≡ i + 1 + k = omega arith in
      ap (λ m. same_run (run_part (f m))) e ∙ nth_runs (i + 1) n k (later_runs i n h) (omega arith) ∙ sym (ap (λ o. slice_get (run_then o (runs_in f (i + 1) n)) (suc k)) z.1)

module _ (f : ℕ → Option Record) (entries runs : ℕ) (h : Laid f entries runs) where
  pub laid_entries : entries ≡ length (group_in f entries runs).items
  laid_entries = sym (length_entries f 0 entries (from_zero f entries h.entries_first))

  pub laid_runs : runs ≡ length (group_in f entries runs).runs
  laid_runs = sym (length_runs f entries runs h.runs_follow)

  pub laid_entry : (i : ℕ) → i < entries → option_map item_in (entry_part (f i)) ≡ slice_get (group_in f entries runs).items i
  laid_entry i l = let e : i ≡ 0 + i = omega arith in ap (λ m. option_map item_in (entry_part (f m))) e ∙ nth_entries f 0 entries i (from_zero f entries h.entries_first) l

  pub laid_run : (i j : ℕ) → i < runs → j ≡ entries + i → run_part (f j) ≡ slice_get (group_in f entries runs).runs i
  laid_run i j l e = ap (λ m. run_part (f m)) e ∙ nth_runs f entries runs i h.runs_follow l

  pub no_entry : (i : ℕ) → entries ≤ i → None ≡ slice_get (group_in f entries runs).items i
  no_entry i l = let e = laid_entries in sym (slice_get_past (group_in f entries runs).items i (omega arith))

  pub no_run : (i : ℕ) → runs ≤ i → None ≡ slice_get (group_in f entries runs).runs i
  no_run i l = let e = laid_runs in sym (slice_get_past (group_in f entries runs).runs i (omega arith))
