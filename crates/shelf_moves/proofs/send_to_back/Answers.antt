use Rattle.std.proofs.Common.{◌≡◌, true, cond, ◌++◌, length, take, drop, sym, ap, ◌∙◌}
use Rattle.shelf_moves.proofs.FirstLaws.{ok_is_none}
use Rattle.shelf_moves.proofs.BackToEnd.{behind, others, first_fits_ok}
use Rattle.shelf_moves.proofs.send_to_back.Goals as goal

pub returns-then-is_ok-clause-answer : goal.returns-then-is_ok-clause-answer
returns-then-is_ok-clause-answer g c =
    let S = g.S.Shelf in
    let a = c.args.shelf.now in
    let ps = S.parcels a in
    let b = c.remove.new.self in
    let m = c.args.memory.now in
    let n = c.in-Ok.length in
    let e = c.remove.ensures in
    let back = behind (S.sizes a) (S.sizes b) ps (S.parcels b) m c.copy.new.memory n (S.within a) e.sizes c.in-Ok.ensures.answer c.copy.ensures.memory (e.after ∙ others ps (length m) n c.in-Ok.ensures.answer) in
    let yes : c.is_ok-then-is_ok.result ≡ true = c.is_ok-then-is_ok.ensures.value ∙ ok_is_none c.append.result (c.append.ensures.answer ∙ back.taken) in
    yes ∙ sym (first_fits_ok ps (length m) n c.in-Ok.ensures.answer)

pub returns-then-is_ok-clause-after : goal.returns-then-is_ok-clause-after
returns-then-is_ok-clause-after g c =
    let S = g.S.Shelf in
    let a = c.args.shelf.now in
    let ps = S.parcels a in
    let b = c.remove.new.self in
    let m = c.args.memory.now in
    let n = c.in-Ok.length in
    let e = c.remove.ensures in
    let back = behind (S.sizes a) (S.sizes b) ps (S.parcels b) m c.copy.new.memory n (S.within a) e.sizes c.in-Ok.ensures.answer c.copy.ensures.memory (e.after ∙ others ps (length m) n c.in-Ok.ensures.answer) in
    let yes : c.is_ok-then-is_ok.result ≡ true = c.is_ok-then-is_ok.ensures.value ∙ ok_is_none c.append.result (c.append.ensures.answer ∙ back.taken) in
    c.append.ensures.after ∙ back.parcels ∙ sym (ap (λ r. cond r (drop 1 ps ++ take 1 ps) ps) yes)
