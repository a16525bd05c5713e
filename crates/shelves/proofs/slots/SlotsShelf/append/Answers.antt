use Rattle.std.proofs.Common.{◌^◌, ◌<◌, length, sym, refl, arith, rules}
use Rattle.shelves.proofs.SlotCalls.{slot_fits, slots_took, slots_kept}
use Rattle.shelves.proofs.slots.SlotsShelf.append.Goals as goal

pub write_in-requires : goal.write_in-requires
write_in-requires c =
    let t = c.args.self.now in
    let h : length t.bytes.now < 2 ^ 64 = search rules in
    let fits = slot_fits t c.args.parcel.now (search rules) (sym c.in_ok-check.ensures) in
    omega (arith, fits.inside c.index-self-self.result)

pub invariant_of-self : goal.invariant_of-self
invariant_of-self c =
    let t = c.args.self.now in
    let h : length t.bytes.now < 2 ^ 64 = search rules in
    let fits = slot_fits t c.args.parcel.now (search rules) (sym c.in_ok-check.ensures) in
    record { fits = omega (arith, fits.inside c.index-self-self.result) }

pub invariant_of-self-2 : goal.invariant_of-self-2
invariant_of-self-2 c =
    let t = c.args.self.now in
    record { sound = (slots_took t c.write_in.new.bytes _ c.index-self-self.result c.args.parcel.now (search rules) (sym c.in_ok-check.ensures) refl refl (cc)).stays }

pub returns-clause-after : goal.returns-clause-after
returns-clause-after c =
    let t = c.args.self.now in
    (slots_took t c.write_in.new.bytes _ c.index-self-self.result c.args.parcel.now (search rules) (sym c.in_ok-check.ensures) refl refl (cc)).parcels

pub returns-clause-spare : goal.returns-clause-spare
returns-clause-spare c =
    let t = c.args.self.now in
    slots_kept t c.write_in.new.bytes c.index-self-self.result c.args.parcel.now (search rules) (sym c.in_ok-check.ensures) (cc)
