-- What a ring and slots hold, read off their fields.
use Rattle.std.specs.Prelude.{ℕ, List, length, drop}
use Rattle.shelves.specs.declared.ring.Ring.{Ring}
use Rattle.shelves.specs.declared.slots.Slots.{Slots}
use Rattle.shelves.specs.Parcels.{Sizes}
use Rattle.shelves.specs.Rings.{ring_sizes, ring_room, ring_parcels}
use Rattle.shelves.specs.Slotted.{slot_sizes, slot_room, slot_parcels}

-- a ring: its memory, its parcels, its numbers, and the bytes past those that it uses
abbrev pub ring_memory : Ring → List ℕ
ring_memory r = r.bytes.now

abbrev pub parcels_of_ring : Ring → List (List ℕ)
parcels_of_ring r = ring_parcels (ring_memory r) r.start r.lengths r.count

abbrev pub sizes_of_ring : Ring → Sizes
sizes_of_ring r = ring_sizes (length (ring_memory r))

abbrev pub spare_of_ring : Ring → List ℕ
spare_of_ring r = drop (ring_room (length (ring_memory r))) (ring_memory r)

-- slots, likewise
abbrev pub slots_memory : Slots → List ℕ
slots_memory s = s.bytes.now

abbrev pub parcels_of_slots : Slots → List (List ℕ)
parcels_of_slots s = slot_parcels (slots_memory s) s.slots s.count

abbrev pub sizes_of_slots : Slots → Sizes
sizes_of_slots s = slot_sizes (length (slots_memory s)) s.size

abbrev pub spare_of_slots : Slots → List ℕ
spare_of_slots s = drop (slot_room (length (slots_memory s)) s.size) (slots_memory s)
