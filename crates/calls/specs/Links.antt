-- The calls lose and repeat, on a link alone.
use Rattle.std.specs.Prelude.{ℕ, List, [], Some, None, Option}
use Rattle.std.specs.List.{slice_get, remove}
use Rattle.shelves.specs.declared.fault.ShelfFault.TheVariants.{NoParcel}
use Rattle.shelves.specs.Parcels.{shelf_fault, append_refusal}
use Rattle.records.specs.Written.{in_front}
use Rattle.calls.specs.Holdings.{Shelf, Turn, turn, refuse, unless, accepted}
use Rattle.calls.specs.Ships.{appended}
use Rattle.calls.specs.Arrivals.{room_fault}

abbrev pub lost : Shelf → ℕ → Option (List ℕ) → Turn Shelf
lost link position None = refuse link [] [] (shelf_fault (NoParcel position))
lost link position (Some parcel) = turn (record { sizes = link.sizes; parcels = remove link.parcels position }) [] [] accepted

-- lose: link, position
abbrev pub lose : Shelf → ℕ → Turn Shelf
lose link position = lost link position (slice_get link.parcels position)

abbrev pub repeated : Shelf → ℕ → List ℕ → Option (List ℕ) → Turn Shelf
repeated link position memory None = refuse link memory [] (shelf_fault (NoParcel position))
repeated link position memory (Some parcel) =
    unless (room_fault parcel memory) (refuse link memory [])
    (unless (append_refusal link.sizes link.parcels parcel) (refuse link (in_front parcel memory) [])
    (turn (appended link parcel) (in_front parcel memory) [] accepted))

-- repeat: link, position, memory
abbrev pub repeat : Shelf → ℕ → List ℕ → Turn Shelf
repeat link position memory = repeated link position memory (slice_get link.parcels position)
