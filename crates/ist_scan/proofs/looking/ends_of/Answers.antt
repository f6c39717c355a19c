use Rattle.std.proofs.Common.{◌≡◌, arith, subst, sym}
use Rattle.ist_scan.specs.Cuts.{IsCut}
use Rattle.ist_scan.proofs.ShotLemmas.{cut_is, looked_more}
use Rattle.ist_scan.proofs.looking.ends_of.Goals as goal

pub returns-clause-looked : goal.returns-clause-looked
returns-clause-looked c =
    looked_more c.args.pass.now c.count_below-low.new.pass c.count_below-high.new.pass
    c.count_below-low.ensures.looked c.count_below-high.ensures.looked

pub returns-clause-cut : goal.returns-clause-cut
returns-clause-cut c = λ pairs h.
    (let low = c.count_below-low.result.count in let high = c.count_below-high.result.count in
    let it = cut_is pairs c.args.from c.args.to low high c.requires.some
    (c.count_below-low.ensures.cuts pairs h)
    (c.count_below-high.ensures.cuts pairs (c.count_below-low.ensures.looked.pairs c.args.shot pairs h)) in
    let order = it.order in let same : c.min.result ≡ low = omega (arith, c.min.ensures, order) in
    subst (λ n. IsCut pairs c.args.from c.args.to n high) (sym same) it)
