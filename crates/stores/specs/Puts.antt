-- When a put is refused, and what a store holds after it.
use Rattle.std.specs.Prelude.{ℕ, Bool, false, cond, not, ◌&&◌, List, Some, None, Option, nat_le, slice_index}
use Rattle.std.specs.List.{slice_get}
use Rattle.refusals.specs.declared.Refusal.{Refusal}
use Rattle.causal.specs.declared.dots.Dot.{Dot}
use Rattle.causal.specs.declared.places.Place.{Place}
use Rattle.causal.specs.Dots.{is_dot}
use Rattle.causal.specs.Places.{is_place, depth_of}
use Rattle.kinds.specs.Kinds.{ValueKind}
use Rattle.stores.specs.declared.entries.Entry.{Entry}
use Rattle.stores.specs.Faults.{bad_address, bad_code, part_full}
use Rattle.stores.specs.Items.{Item, item_at, stands, count_part, put_items}

-- an entry may stand here: the place is well-formed and has a key, and the dot is well-formed
abbrev pub is_address : Place → Dot → Bool
is_address p d = (is_place p && nat_le 1 (depth_of p)) && is_dot d

-- the code is one of this kind, if there is one
abbrev pub fits_kind : Option ValueKind → ℕ → Bool
fits_kind None code = false
fits_kind (Some k) code = k.fits code

-- the code is one of the part's kind; a part that is not there has none
abbrev pub fits_part : List ValueKind → ℕ → ℕ → Bool
fits_part ks p code = fits_kind (slice_get ks p) code

-- what is wrong with an entry for a part of this kind; none where the part is not there
abbrev pub misfit_of : Option ValueKind → Entry ℕ → Option Refusal
misfit_of None e = Some bad_address
misfit_of (Some k) e = cond (is_address e.place e.dot) (cond (k.fits e.value) None (Some bad_code)) (Some bad_address)

-- what is wrong with an entry for this part, whatever the store holds
abbrev pub misfit : List ValueKind → ℕ → Entry ℕ → Option Refusal
misfit ks p e = misfit_of (slice_get ks p) e

-- the dot would be a new one in a part that has no room
abbrev pub crowded : List ℕ → List Item → ℕ → Dot → Bool
crowded caps xs p d = not (stands d xs) && nat_le (slice_index caps p) (count_part p xs)

-- the part is full, where the test says so
abbrev pub full_if : ℕ → Bool → Option Refusal
full_if p b = cond b (Some (part_full p)) None

-- the first refusal, and only if there is none the second
abbrev pub first_of : Option Refusal → Option Refusal → Option Refusal
first_of None g = g
first_of (Some f) g = Some f

-- the first rule that the put breaks
abbrev pub put_refusal : List ValueKind → List ℕ → List Item → ℕ → Entry ℕ → Option Refusal
put_refusal ks caps xs p e = first_of (misfit ks p e) (full_if p (crowded caps xs p e.dot))

-- the new where nothing is refused, and else the old
abbrev pub accept : {X : Type 0} → Option Refusal → X → X → X
accept None new old = new
accept (Some f) new old = old

-- the items with x put in, under the kind of its part
abbrev pub put_of : Option ValueKind → Item → List Item → List Item
put_of None x xs = xs
put_of (Some k) x xs = put_items k x xs

-- what is held after the put: with the entry, where no rule is broken
abbrev pub put_after : List ValueKind → List ℕ → List Item → ℕ → Entry ℕ → List Item
put_after ks caps xs p e = accept (put_refusal ks caps xs p e) (put_of (slice_get ks p) (item_at p e) xs) xs
