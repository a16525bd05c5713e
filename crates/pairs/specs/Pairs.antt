-- Two stores as one: the parts of the first, then those of the second, the first eight of them.
use Rattle.std.specs.Prelude.{ℕ, ◌+◌, ◌≤◌, List, ◌++◌, map, take}
use Rattle.std.proofs.Common.{arith, length-append}
use Rattle.std.proofs.lemmas.List.{length-take}
use Rattle.std.proofs.ByRecursion.{All-append, All-take}
use Rattle.kinds.specs.Kinds.{ValueKind}
use Rattle.stores.specs.Items.{Item}
use Rattle.stores.specs.Sound.{FewParts, Roomy, most_parts, most_entries}

-- x, its part counted from n
abbrev pub raise : ℕ → Item → Item
raise n x = record { part = n + x.part; place = x.place; dot = x.dot; code = x.code }

-- the items of the first, whose parts are n, and then those of the second
abbrev pub both : ℕ → List Item → List Item → List Item
both n xs ys = xs ++ map (raise n) ys

-- a thing for each part, of the parts that a pair has
abbrev pub paired : {X : Type 0} → List X → List X → List X
paired xs ys = take most_parts (xs ++ ys)

-- how many parts a pair has, and their capacities

pub paired_few : (ks ls : List ValueKind) → FewParts ks → FewParts (paired ks ls)
paired_few ks ls h =
    let t = length-take most_parts (ks ++ ls) in
    let l = length-append ks ls in
    let s = h.some in
    record { some = omega arith; few = omega arith }

pub paired_roomy : (ks ls : List ValueKind) (us vs : List ℕ) → Roomy ks us → Roomy ls vs → Roomy (paired ks ls) (paired us vs)
paired_roomy ks ls us vs h k =
    let t = length-take most_parts (ks ++ ls) in
    let l = length-append ks ls in
    let u = length-take most_parts (us ++ vs) in
    let m = length-append us vs in
    let p = h.even in
    let q = k.even in
    record { even = omega arith; small = All-take (λ n. n ≤ most_entries) most_parts (us ++ vs) (All-append (λ n. n ≤ most_entries) us vs h.small k.small) }
