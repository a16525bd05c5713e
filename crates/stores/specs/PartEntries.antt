-- What a walk over a part has still to give.
use Rattle.std.specs.Prelude.{ℕ, List, map, drop, filter}
use Rattle.stores.specs.declared.entries.Entry.{Entry}
use Rattle.stores.specs.declared.part_entries.PartEntries.{PartEntries}
use Rattle.stores.specs.Items.{Item, in_part, entry_of}

-- the entries of the part from this position on, where a store holds these items
abbrev pub entries_left : {S : Type 0} → (S → List Item) → PartEntries S → List (Entry ℕ)
entries_left held walk = map entry_of (drop walk.position (filter (in_part walk.part) (held walk.store.now)))
