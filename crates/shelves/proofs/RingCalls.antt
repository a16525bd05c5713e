-- The outcomes of a ring's calls.
use Rattle.std.proofs.Common.{◌≡◌, ℕ, ◌+◌, ◌-◌, ◌<◌, ◌≤◌, cond, ltb, List, [], ◌∷◌, ◌++◌, length, take, drop, set, None, sum, sym, ap, ◌∙◌, arith}
use Rattle.std.specs.List.{remove}
use Rattle.std.proofs.lemmas.List.{length-set, length-take-le}
use Rattle.shelves.specs.declared.extent.Extent.{Extent}
use Rattle.shelves.specs.declared.ring.Ring.{Ring}
use Rattle.shelves.specs.declared.round.Round.{Round}
use borrow.Rule.Slice.PartMut.{put_mid, mid_of}
use Rattle.shelves.specs.Meanings.{ring_memory, parcels_of_ring, sizes_of_ring, spare_of_ring}
use Rattle.shelves.specs.Layout.{byte, pieces, laid}
use Rattle.shelves.specs.Extents.{Placed}
use Rattle.shelves.specs.Parcels.{held, append_refusal, after_append, remove_refusal, after_remove}
use Rattle.shelves.specs.Rings.{ring_room, ring_parcels, SoundRing}
use Rattle.shelves.proofs.Written.{length_laid, laid_spare}
use Rattle.shelves.proofs.Stocks.{misfit_none, whole_parts, within_append, within_remove, append_taken, remove_answer, remove_taken}
use Rattle.shelves.proofs.Sent.{sent_removed, sent_length}
use Rattle.shelves.proofs.RingLaws.{ring_count, ring_sum, ring_appended, ring_removed, sound_by}

-- a parcel was taken
pub record RingTook (t : Ring) (after news : List ℕ) : Type 0 where
  pub fewer : t.count < 128
  pub parcels : ring_parcels after t.start (set t.lengths t.count (length news)) (t.count + 1) ≡ after_append (sizes_of_ring t) (parcels_of_ring t) news
  pub spare : drop (ring_room (length after)) after ≡ spare_of_ring t
  pub stays : SoundRing after t.start (set t.lengths t.count (length news)) (t.count + 1)

pub ring_took : (t : Ring) (after news : List ℕ) (r : Round) (used : ℕ) → length t.lengths ≡ 128 → append_refusal (sizes_of_ring t) (parcels_of_ring t) news ≡ None
    → r.room ≡ ring_room (length (ring_memory t)) → r.start ≡ t.start → used ≡ sum (take t.count t.lengths) → after ≡ laid (ring_memory t) r.room r.start used news → RingTook t after news
ring_took t after news r used k none room_is start_is used_is wrote =
    let bytes = ring_memory t in
    let start = t.start in
    let lengths = t.lengths in
    let count = t.count in
    let s = t.sound in
    let z = sizes_of_ring t in
    let ps = parcels_of_ring t in
    let room = ring_room (length bytes) in
    let fits = misfit_none z (length ps) (held ps) (length news) none in
    let w = (whole_parts (length news) fits.whole).1 in
    let total = ring_sum bytes start lengths count s in
    let c = ring_count bytes start lengths count s.listed in
    let made : after ≡ laid bytes room start (sum (take count lengths)) news = cc in
    let in-room : sum (take count lengths) + length news ≤ room = omega (arith, fits.room) in
    let below : count < length lengths = omega (arith, fits.fewer) in
    let e = ring_appended bytes after start lengths count news s.begins below in-room made in
    let n : length after ≡ length bytes = ap length made ∙ length_laid bytes room start (sum (take count lengths)) news in
    let m = length-set lengths count (length news) in
    record {
      fewer = omega arith;
      parcels = e ∙ sym (append_taken z ps news none);
      spare = ap (λ j. drop (ring_room j) after) n ∙ ap (drop room) made ∙ laid_spare bytes room start (sum (take count lengths)) news s.begins in-room;
      stays = sound_by bytes after start (set lengths count (length news)) (count + 1) (ps ++ news ∷ []) n s.begins (omega arith) e (within_append z ps news s.within fits);
    }

-- a parcel was removed
pub record RingGave (t : Ring) (after : List ℕ) (begins : ℕ) (lengths : List ℕ) (at : ℕ) : Type 0 where
  pub answer : remove_refusal (parcels_of_ring t) at ≡ None
  pub parcels : ring_parcels after begins lengths (t.count - 1) ≡ after_remove (parcels_of_ring t) at
  pub stays : SoundRing after begins lengths (t.count - 1)

pub ring_gave : (t : Ring) (after : List ℕ) (begins at used : ℕ) (e : Extent) (r : Round) (ys : List ℕ) → Placed (take t.count t.lengths) at e
    → r.room ≡ ring_room (length (ring_memory t)) → r.start ≡ t.start → used ≡ sum (take t.count t.lengths) → length after ≡ length (ring_memory t) → begins ≤ r.room
    → ((i : ℕ) → i < used - e.length → byte after r.room begins i ≡ byte (ring_memory t) r.room r.start (cond (ltb i e.from) i (i + e.length)))
    → ys ≡ drop 1 (mid_of at (t.count - at) t.lengths) ++ take 1 (mid_of at (t.count - at) t.lengths) → RingGave t after begins (put_mid at (t.count - at) t.lengths ys) at
ring_gave t after begins at used e r ys p room_is start_is used_is n b moved turned =
    let bytes = ring_memory t in
    let start = t.start in
    let count = t.count in
    let s = t.sound in
    let ps = parcels_of_ring t in
    let xs = take count t.lengths in
    let room = ring_room (length bytes) in
    let c = ring_count bytes start t.lengths count s.listed in
    let k = length-take-le count t.lengths s.listed in
    let inside : at < length ps = omega (arith, p.before) in
    let within : at < count = omega (arith, p.before) in
    let long = sent_length t.lengths ys at count within s.listed turned in
    let moved' = rw (room_is, start_is) at moved in
    let gone : ring_parcels after begins (put_mid at (count - at) t.lengths ys) (count - 1) ≡ remove ps at =
    ap (pieces (byte after (ring_room (length after)) begins) 0) (sent_removed t.lengths ys at count within s.listed turned)
    ∙ ring_removed bytes after start begins xs at n p.before
    (λ i h. moved' i (omega (arith, p.length))
    ∙ ap (λ j. byte bytes room start (cond (ltb i j) i (i + e.length))) p.from ∙ ap (λ j. byte bytes room start (cond (ltb i (sum (take at xs))) i (i + j))) p.length) in
    record {
      answer = remove_answer ps at inside;
      parcels = gone ∙ sym (remove_taken ps at inside);
      stays = sound_by bytes after begins (put_mid at (count - at) t.lengths ys) (count - 1) (remove ps at) n (omega arith) (omega (arith, s.listed)) gone (within_remove (sizes_of_ring t) ps at s.within inside);
    }
