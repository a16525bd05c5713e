-- The outcomes of the calls on slots.
use Rattle.std.proofs.Common.{◌≡◌, ℕ, ◌+◌, ◌-◌, ◌*◌, ◌/◌, ◌<◌, ◌≤◌, List, ◌++◌, map, length, get_or, take, drop, set, None, sym, ap, ◌∙◌, subst, arith}
use Rattle.std.specs.List.{remove}
use Rattle.std.proofs.Math.Seq.{map-set_same}
use Rattle.std.proofs.lemmas.List.{length-set, get_or-map}
use Rattle.shelves.specs.declared.extent.Extent.{Extent}
use Rattle.shelves.specs.declared.slots.Slots.{Slots}
use borrow.Rule.Slice.PartMut.{put_mid, mid_of}
use Rattle.shelves.specs.Meanings.{slots_memory, parcels_of_slots, sizes_of_slots, spare_of_slots}
use Rattle.shelves.specs.Extents.{bytes_at}
use Rattle.shelves.specs.Layout.{byte, laid}
use Rattle.shelves.specs.Parcels.{Within, held, append_refusal, after_append, remove_refusal, after_remove}
use Rattle.shelves.specs.Slotted.{slot_size, slot_count, slot_sizes, slot_room, slot_parcels, slot_starts, Disjoint, SoundSlots}
use Rattle.shelves.proofs.Written.{length_laid}
use Rattle.shelves.proofs.Stocks.{misfit_none, whole_parts, within_append, within_remove, append_taken, remove_answer, remove_taken}
use Rattle.shelves.proofs.Sent.{source, sent_removed, sent_length, sent_get}
use Rattle.shelves.proofs.SlotSizes.{room_within}
use Rattle.shelves.proofs.SlotLaws.{nowhere, slots_count, slots_appended, slots_spare, map_removed, source_within, disjoint_sent}

-- a parcel was taken
pub record SlotsTook (t : Slots) (after : List ℕ) (e : Extent) (news : List ℕ) : Type 0 where
  pub parcels : slot_parcels after (set t.slots t.count e) (t.count + 1) ≡ after_append (sizes_of_slots t) (parcels_of_slots t) news
  pub stays : SoundSlots after t.size (set t.slots t.count e) (t.count + 1)

-- it fits into the next slot
pub record SlotFits (t : Slots) (news : List ℕ) : Type 0 where
  pub fewer : t.count < slot_count (length (slots_memory t)) t.size
  pub short : length news ≤ 24 * slot_size t.size
  pub from_is : (d : Extent) → (get_or t.slots t.count d).from ≡ get_or (slot_starts t.slots) t.count 0
  pub inside : (d : Extent) → (get_or t.slots t.count d).from + length news ≤ length (slots_memory t)

pub slot_fits : (t : Slots) (news : List ℕ) → length t.slots ≡ 128 → append_refusal (sizes_of_slots t) (parcels_of_slots t) news ≡ None → SlotFits t news
slot_fits t news k none =
    let n = length (slots_memory t) in
    let ps = parcels_of_slots t in
    let fits = misfit_none (sizes_of_slots t) (length ps) (held ps) (length news) none in
    let w = (whole_parts (length news) fits.whole).1 in
    let c = slots_count (slots_memory t) t.size t.slots t.count t.sound in
    let few : length ps < slot_count n t.size = fits.fewer in
    let shorter : length news / 24 ≤ slot_size t.size = fits.shorter in
    let end = t.sound.apart.inside t.count (omega arith) in
    let r = room_within n t.size in
    let from_is : (d : Extent) → (get_or t.slots t.count d).from ≡ get_or (slot_starts t.slots) t.count 0 =
    λ d. sym (get_or-map (λ x. x.from) t.slots t.count d 0 (omega arith)) in
    record { fewer = omega arith; short = omega arith; from_is = from_is; inside = λ d. let f = from_is d in omega arith }

pub slots_took : (t : Slots) (after : List ℕ) (e d : Extent) (news : List ℕ) → length t.slots ≡ 128 → append_refusal (sizes_of_slots t) (parcels_of_slots t) news ≡ None
    → e.from ≡ (get_or t.slots t.count d).from → e.length ≡ length news
    → after ≡ laid (slots_memory t) (length (slots_memory t)) 0 e.from news → SlotsTook t after e news
slots_took t after e d news k none is size_is made =
    let bytes = slots_memory t in
    let size = t.size in
    let slots = t.slots in
    let count = t.count in
    let s = t.sound in
    let ps = parcels_of_slots t in
    let z = sizes_of_slots t in
    let fits = slot_fits t news k none in
    let from : e.from ≡ get_or (slot_starts slots) count 0 = is ∙ fits.from_is d in
    let same : slot_starts (set slots count e) ≡ slot_starts slots = map-set_same (λ x. x.from) slots count e d is in
    let n : length after ≡ length bytes = ap length made ∙ length_laid bytes (length bytes) 0 e.from news in
    let m = length-set slots count e in
    let below : count < length slots = omega (arith, fits.fewer) in
    let grown = slots_appended bytes size slots count s after e news below fits.fewer fits.short from size_is made in
    record {
      parcels = grown ∙ sym (append_taken z ps news none);
      stays = record {
        apart = subst (λ j. Disjoint (slot_starts (set slots count e)) (slot_count j size) (24 * slot_size size) (slot_room j size)) (sym n)
            (subst (λ starts. Disjoint starts (slot_count (length bytes) size) (24 * slot_size size) (slot_room (length bytes) size)) (sym same) s.apart);
        listed = omega arith;
        within = subst (λ j. Within (slot_sizes j size) (slot_parcels after (set slots count e) (count + 1))) (sym n)
            (subst (λ qs. Within z qs) (sym grown) (within_append z ps news s.within (misfit_none z (length ps) (held ps) (length news) none)));
      };
    }

pub slots_kept : (t : Slots) (after : List ℕ) (d : Extent) (news : List ℕ) → length t.slots ≡ 128 → append_refusal (sizes_of_slots t) (parcels_of_slots t) news ≡ None
    → after ≡ laid (slots_memory t) (length (slots_memory t)) 0 (get_or t.slots t.count d).from news → drop (slot_room (length after) t.size) after ≡ spare_of_slots t
slots_kept t after d news k none made =
    let bytes = slots_memory t in
    let from = (get_or t.slots t.count d).from in
    let fits = slot_fits t news k none in
    ap (λ j. drop (slot_room j t.size) after) (ap length made ∙ length_laid bytes (length bytes) 0 from news)
    ∙ slots_spare bytes t.size t.slots t.count t.sound after from news fits.fewer fits.short (fits.from_is d) made

-- a parcel was removed
pub record SlotsGave (t : Slots) (others : List Extent) (at : ℕ) : Type 0 where
  pub answer : remove_refusal (parcels_of_slots t) at ≡ None
  pub parcels : slot_parcels (slots_memory t) others (t.count - 1) ≡ after_remove (parcels_of_slots t) at
  pub stays : SoundSlots (slots_memory t) t.size others (t.count - 1)

pub slots_gave : (t : Slots) (at : ℕ) (ys : List Extent) → at < t.count → length t.slots ≡ 128
    → ys ≡ drop 1 (mid_of at (t.count - at) t.slots) ++ take 1 (mid_of at (t.count - at) t.slots) → SlotsGave t (put_mid at (t.count - at) t.slots ys) at
slots_gave t at ys h l turned =
    let others = put_mid at (t.count - at) t.slots ys in
    let m = sent_length t.slots ys at t.count h t.sound.listed turned in
    let gone = sent_removed t.slots ys at t.count h t.sound.listed turned in
    let moved : (i : ℕ) → get_or others i nowhere ≡ get_or t.slots (source at (t.count - 1) i) nowhere = λ i. sent_get t.slots ys at t.count h t.sound.listed turned i nowhere in
    let bytes = slots_memory t in
    let size = t.size in
    let count = t.count in
    let s = t.sound in
    let ps = parcels_of_slots t in
    let z = sizes_of_slots t in
    let f = byte bytes (length bytes) 0 in
    let most = slot_count (length bytes) size in
    let c = slots_count bytes size t.slots count s in
    let few = s.within.few in
    let inside : at < length ps = omega arith in
    let left : slot_parcels bytes others (count - 1) ≡ remove ps at = ap (map (bytes_at f)) gone ∙ map_removed (bytes_at f) (take count t.slots) at in
    record {
      answer = remove_answer ps at inside;
      parcels = left ∙ sym (remove_taken ps at inside);
      stays = record {
        apart = disjoint_sent (slot_starts t.slots) (slot_starts others) most (24 * slot_size size) (slot_room (length bytes) size) at (count - 1) (omega arith) (omega arith)
            (λ i k. get_or-map (λ x. x.from) others i nowhere 0 (omega arith) ∙ ap (λ (x : Extent). x.from) (moved i)
            ∙ sym (get_or-map (λ x. x.from) t.slots (source at (count - 1) i) nowhere 0 (omega (arith, source_within at (count - 1) i most (omega arith) (omega arith) k)))) s.apart;
        listed = omega arith;
        within = subst (λ qs. Within z qs) (sym left) (within_remove z ps at s.within inside);
      };
    }
