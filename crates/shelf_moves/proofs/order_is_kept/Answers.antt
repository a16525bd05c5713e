use Rattle.std.proofs.Common.{[], ◌∷◌, arith}
use Rattle.std.proofs.lemmas.Grind.{common_steps}
use Rattle.shelves.specs.Parcels.{append_refusal}
use Rattle.shelf_moves.proofs.OrderLaws.{nth_end, nth_either, nth_below, nth_above}
use Rattle.shelf_moves.proofs.order_is_kept.Goals as goal

pub returns : goal.returns
returns c =
    record {
      appended = λ z ps p e. grind (arith, common_steps, nth_end);
      others = λ z ps p i h. nth_either (append_refusal z ps p) ps (p ∷ []) i h;
      before = λ ps at i h. grind (arith, common_steps, nth_below);
      behind = λ ps at i h l. grind (arith, common_steps, nth_above);
      fewer = λ ps at h. grind (arith, common_steps);
      append_refused = λ z ps p r e. grind (arith, common_steps);
      remove_refused = λ ps at r e. grind (arith, common_steps);
    }
