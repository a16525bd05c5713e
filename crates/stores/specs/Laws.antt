-- The laws of what stores hold. Each record stands on the contract of a function of src/laws.rt.
use Rattle.std.specs.Prelude.{◌≡◌, ℕ, zero, suc, ◌+◌, cond, List, [], length, Some, None, Option}
use Rattle.std.specs.List.{slice_get}
use Rattle.causal.specs.declared.dots.Dot.{Dot}
use Rattle.causal.specs.Dots.{same_dot}
use Rattle.kinds.specs.Kinds.{ValueKind}
use Rattle.refusals.specs.declared.Refusal.{Refusal}
use Rattle.stores.specs.declared.entries.Entry.{Entry}
use Rattle.stores.specs.Items.{Item, item_at, find, merge, count_part, strike_items}
use Rattle.stores.specs.Puts.{put_refusal, put_after}
use Rattle.stores.specs.Sound.{Orderly}

-- what stands at the dot of x once x was put: x, or the one that stood there, joined with x where both have one part and place
abbrev pub joined_with : ValueKind → Item → Option Item → Item
joined_with k x None = x
joined_with k x (Some y) = merge k x y

-- a put changes the look-up at its own dot alone, and a refused one changes nothing
pub record PutsChangeOneDot : Type 0 where
  pub accepted : (ks : List ValueKind) (caps : List ℕ) (xs : List Item) (p : ℕ) (e : Entry ℕ) (k : ValueKind) → slice_get ks p ≡ Some k → put_refusal ks caps xs p e ≡ None
      → (d : Dot) → find d (put_after ks caps xs p e) ≡ cond (same_dot e.dot d) (Some (joined_with k (item_at p e) (find d xs))) (find d xs)
  pub refused : (ks : List ValueKind) (caps : List ℕ) (xs : List Item) (p : ℕ) (e : Entry ℕ) (f : Refusal) → put_refusal ks caps xs p e ≡ Some f → put_after ks caps xs p e ≡ xs

-- after a strike the dot is not found, and every other one is found as before
abbrev pub StrikesRemoveOneDot : Type 0
StrikesRemoveOneDot = (e : Dot) (xs : List Item) (d : Dot) → find d (strike_items e xs) ≡ cond (same_dot e d) None (find d xs)

-- what a look-up finds has the dot; and two stores in order in which each dot finds the same hold the same list
pub record LookupsTellLists : Type 0 where
  pub found : (d : Dot) (xs : List Item) (x : Item) → find d xs ≡ Some x → x.dot ≡ d
  pub same : (ks ls : List ValueKind) (us vs : List ℕ) (xs ys : List Item) → Orderly ks us xs → Orderly ls vs ys → ((d : Dot) → find d xs ≡ find d ys) → xs ≡ ys

-- how many items the first n parts hold
abbrev pub count_parts : ℕ → List Item → ℕ
count_parts zero xs = 0
count_parts (suc n) xs = count_parts n xs + count_part n xs

-- the counts of all parts add up to the number of items
abbrev pub PartCountsAddUp : Type 0
PartCountsAddUp = (ks : List ValueKind) (caps : List ℕ) (xs : List Item) → Orderly ks caps xs → count_parts (length ks) xs ≡ length xs

-- nothing held is orderly, and so is what a put or a strike leaves of what is
pub record CallsKeepOrder : Type 0 where
  pub none : (ks : List ValueKind) (caps : List ℕ) → Orderly ks caps []
  pub put : (ks : List ValueKind) (caps : List ℕ) (xs : List Item) (p : ℕ) (e : Entry ℕ) → Orderly ks caps xs → Orderly ks caps (put_after ks caps xs p e)
  pub strike : (ks : List ValueKind) (caps : List ℕ) (xs : List Item) (d : Dot) → Orderly ks caps xs → Orderly ks caps (strike_items d xs)
