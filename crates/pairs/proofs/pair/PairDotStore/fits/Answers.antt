use Rattle.std.proofs.Common.{◌≡◌, ◌-◌, length, sym, ap, ◌∙◌, arith}
use Rattle.stores.specs.Puts.{fits_part, fits_kind}
use Rattle.pairs.proofs.PairLaws.{nth_high}
use Rattle.pairs.proofs.pair.PairDotStore.fits.Goals as goal

pub returns : goal.returns
returns g c =
    let ka = g.A.DotStore.kinds in
    let kb = g.B.DotStore.kinds in
    let p = c.args.part in
    let n : c.part_count-parts.result ≡ length ka = c.part_count-parts.ensures in
    c.fits-2.ensures ∙ ap (λ j. fits_part kb (p - j) c.args.code) n ∙ ap (λ o. fits_kind o c.args.code) (sym (nth_high ka kb p (omega arith) c.if-part-ge-MOST_PARTS.false))
