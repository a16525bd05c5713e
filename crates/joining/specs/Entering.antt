-- What a list of items becomes as the items of a group enter it.
use Rattle.std.specs.Prelude.{Bool, cond, not, ◌&&◌, List, [], ◌∷◌}
use Rattle.std.specs.List.{slice_get}
use Rattle.causal.specs.declared.dots.Dot.{Dot}
use Rattle.causal.specs.declared.runs.Run.{Run}
use Rattle.kinds.specs.Kinds.{ValueKind}
use Rattle.causal.specs.Runs.{has}
use Rattle.stores.specs.Items.{Item, stands}
use Rattle.stores.specs.Puts.{put_of}

-- the dot is known, and does not stand among the items: what had it was struck
abbrev pub shut : List Run → Dot → List Item → Bool
shut rs d xs = has rs d && not (stands d xs)

-- y put among xs, unless its dot is shut
abbrev pub enter : List ValueKind → List Run → Item → List Item → List Item
enter ks rs y xs = cond (shut rs y.dot xs) xs (put_of (slice_get ks y.part) y xs)

-- one item after another
abbrev pub enter_all : List ValueKind → List Run → List Item → List Item → List Item
enter_all ks rs xs [] = xs
enter_all ks rs xs (y ∷ ys) = enter_all ks rs (enter ks rs y xs) ys
