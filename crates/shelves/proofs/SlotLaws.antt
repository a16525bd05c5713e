-- Parcels in slots.
use Rattle.std.proofs.Common.{◌≡◌, ℕ, suc, ◌+◌, ◌*◌, ◌<◌, ◌≤◌, true, List, [], ◌∷◌, ◌++◌, map, length, get_or, take, drop, set, sum, sum_by, sym, refl, ap, ◌∙◌, arith}
use Rattle.std.specs.List.{range_with_len, remove}
use Rattle.std.proofs.lemmas.List.{ext_get_or, get_or-map, get_or-take, length-map, length-take-le, take_more_set, map-append, take-map, drop-map}
use Rattle.std.proofs.lemmas.List.Sums.{sum-map}
use Rattle.std.proofs.lemmas.List.FromFn.{length-map-range_with_len}
use Rattle.std.proofs.ByRecursion.{All-get_or}
use Rattle.std.proofs.lemmas.Bool.Decides.{nat_tests}
use Rattle.shelves.specs.declared.extent.Extent.{Extent}
use Rattle.shelves.specs.Extents.{bytes_at}
use Rattle.shelves.specs.Layout.{byte, turn, laid}
use Rattle.shelves.specs.Parcels.{held, whole, records}
use Rattle.shelves.specs.Slotted.{slot_size, slot_count, slot_room, slot_parcels, slot_starts, Disjoint, SoundSlots}
use Rattle.shelves.proofs.Pieces.{map_same}
use Rattle.shelves.proofs.Sent.{source}
use Rattle.shelves.proofs.SlotSizes.{room_within}
use Rattle.shelves.proofs.Stocks.{sum_held, whole_parts}
use Rattle.shelves.proofs.Turns.{turn_none}
use Rattle.shelves.proofs.Written.{length_laid, laid_other, laid_there, laid_past, apart}

pub nowhere : Extent
nowhere = record { from = 0; length = 0; fits = omega arith }

pub lengths_at : (f : ℕ → ℕ) (es : List Extent) → map length (map (bytes_at f) es) ≡ map (λ e. e.length) es
lengths_at f [] = refl
lengths_at f (e ∷ es) = ap (λ n. n ∷ map length (map (bytes_at f) es)) (length-map-range_with_len f e.from e.length) ∙ ap (λ ns. e.length ∷ ns) (lengths_at f es)

-- two functions that agree at the bytes of each
pub same_at : (f g : ℕ → ℕ) (es : List Extent) → ((k i : ℕ) → k < length es → (get_or es k nowhere).from ≤ i → i < (get_or es k nowhere).from + (get_or es k nowhere).length → g i ≡ f i)
    → map (bytes_at g) es ≡ map (bytes_at f) es
same_at f g es same =
    let n = length-map es (bytes_at g) in
    let m = length-map es (bytes_at f) in
    ext_get_or [] (map (bytes_at g) es) (map (bytes_at f) es) (omega arith)
    (λ k h. get_or-map (bytes_at g) es k nowhere [] (omega arith)
    ∙ map_same f g (get_or es k nowhere).from (get_or es k nowhere).length (λ i p q. same k i (omega arith) p q)
    ∙ sym (get_or-map (bytes_at f) es k nowhere [] (omega arith)))

-- what is known of slots
module _ (bytes : List ℕ) (size : ℕ) (slots : List Extent) (count : ℕ) (s : SoundSlots bytes size slots count) where
  pub slots_count : length (slot_parcels bytes slots count) ≡ count
  slots_count = length-map (take count slots) (bytes_at (byte bytes (length bytes) 0)) ∙ length-take-le count slots s.listed

  -- the bytes that they use
  pub slots_sum : sum_by (λ (e : Extent). e.length) (take count slots) ≡ 24 * held (slot_parcels bytes slots count)
  slots_sum =
      sym (sum-map (λ (e : Extent). e.length) (take count slots)) ∙ ap sum (sym (lengths_at (byte bytes (length bytes) 0) (take count slots)))
      ∙ sum_held (slot_parcels bytes slots count) s.within.whole

  pub slot_short : (k : ℕ) → k < count → (get_or slots k nowhere).length ≤ 24 * slot_size size
  slot_short k h =
      let f = byte bytes (length bytes) 0 in
      let ps = slot_parcels bytes slots count in
      let n = slots_count in
      let m = length-take-le count slots s.listed in
      let p = get_or ps k [] in
      let e : length p ≡ (get_or slots k nowhere).length =
      ap length (get_or-map (bytes_at f) (take count slots) k nowhere [] (omega arith)) ∙ ap (λ (x : Extent). length (bytes_at f x)) (get_or-take count slots k nowhere h)
      ∙ length-map-range_with_len f (get_or slots k nowhere).from (get_or slots k nowhere).length in
      let w = whole_parts (length p) (All-get_or (λ q. whole (length q) ≡ true) ps k [] (omega arith) s.within.whole) in
      let r : records p ≤ slot_size size = All-get_or (λ q. records q ≤ slot_size size) ps k [] (omega arith) s.within.short in
      omega (arith, w.1)

  -- the parcels after a write into the next slot
  pub slots_appended : (after : List ℕ) (e : Extent) (news : List ℕ) → count < length slots → count < slot_count (length bytes) size → length news ≤ 24 * slot_size size
      → e.from ≡ get_or (slot_starts slots) count 0 → e.length ≡ length news → after ≡ laid bytes (length bytes) 0 e.from news
      → slot_parcels after (set slots count e) (count + 1) ≡ slot_parcels bytes slots count ++ news ∷ []
  slots_appended after e news l h short from size_is made =
      let n = length bytes in
      let new = laid bytes n 0 e.from news in
      let f = byte bytes n 0 in
      let g = byte new n 0 in
      let same_length : length after ≡ n = ap length made ∙ length_laid bytes n 0 e.from news in
      let r = room_within n size in
      let end = s.apart.inside count h in
      let m = length-take-le count slots s.listed in
      ap (λ j. map (bytes_at (byte after j 0)) (take (count + 1) (set slots count e))) same_length
      ∙ ap (λ bs. map (bytes_at (byte bs n 0)) (take (count + 1) (set slots count e))) made
      ∙ ap (map (bytes_at g)) (take_more_set slots count e l)
      ∙ map-append (bytes_at g) (take count slots) (e ∷ [])
      ∙ ap (λ ps. ps ++ bytes_at g e ∷ []) (same_at f g (take count slots)
      (λ k i lt low high.
      let at = get_or slots k nowhere in
      let same : get_or (take count slots) k nowhere ≡ at = get_or-take count slots k nowhere (omega arith) in
      let lies : get_or (slot_starts slots) k 0 ≡ at.from = get_or-map (λ x. x.from) slots k nowhere 0 (omega arith) in
      let from_is : (get_or (take count slots) k nowhere).from ≡ at.from = ap (λ (x : Extent). x.from) same in
      let length_is : (get_or (take count slots) k nowhere).length ≡ at.length = ap (λ (x : Extent). x.length) same in
      let a = slot_short k (omega arith) in
      let b = s.apart.inside k (omega arith) in
      let ways = s.apart.apart k count (omega arith) h (λ z. omega arith) in
      laid_other bytes n 0 e.from news (turn n 0 i) (λ j m. apart n 0 i (e.from + j) (omega arith) (omega arith) (omega arith) (λ z. omega arith))))
      ∙ ap (λ k. slot_parcels bytes slots count ++ map g (range_with_len e.from k) ∷ []) size_is
      ∙ ap (λ p. slot_parcels bytes slots count ++ p ∷ []) (laid_there bytes n 0 e.from news (omega arith) (omega arith) (omega arith))

  pub slots_spare : (after : List ℕ) (from : ℕ) (news : List ℕ) → count < slot_count (length bytes) size → length news ≤ 24 * slot_size size
      → from ≡ get_or (slot_starts slots) count 0 → after ≡ laid bytes (length bytes) 0 from news → drop (slot_room (length bytes) size) after ≡ drop (slot_room (length bytes) size) bytes
  slots_spare after from news h short is made =
      let n = length bytes in
      let r = room_within n size in
      let end = s.apart.inside count h in
      ap (drop (slot_room n size)) made ∙ laid_past bytes n 0 from (slot_room n size) news (λ i l. let t = turn_none n (from + i) (omega arith) in omega arith)

-- one taken out
pub map_removed : {X Y : Type 0} (f : X → Y) (xs : List X) (at : ℕ) → map f (remove xs at) ≡ remove (map f xs) at
map_removed f xs at =
    map-append f (take at xs) (drop (suc at) xs) ∙ ap (λ zs. zs ++ map f (drop (suc at) xs)) (sym (take-map f at xs)) ∙ ap (λ zs. take at (map f xs) ++ zs) (sym (drop-map f (suc at) xs))

pub source_within : (at last i most : ℕ) → at ≤ last → last < most → i < most → source at last i < most
source_within at last i most h k l = grind (arith, nat_tests)

source_apart : (at last i j : ℕ) → at ≤ last → source at last i ≡ source at last j → i ≡ j
source_apart at last i j h e = grind (arith, nat_tests)

-- slots in another order
pub disjoint_sent : (starts begins : List ℕ) (most step room at last : ℕ) → at ≤ last → last < most → ((i : ℕ) → i < most → get_or begins i 0 ≡ get_or starts (source at last i) 0)
    → Disjoint starts most step room → Disjoint begins most step room
disjoint_sent starts begins most step room at last h k b d =
    record {
      inside = λ i l. let e = b i l in let p = d.inside (source at last i) (source_within at last i most h k l) in omega arith;
      apart = λ i j l m ne. let e = b i l in let f = b j m in
          let p = d.apart (source at last i) (source at last j) (source_within at last i most h k l) (source_within at last j most h k m) (λ z. ne (source_apart at last i j h z)) in
          omega arith;
    }
