use Rattle.std.proofs.Common.{◌∷◌, ◌∙◌, ap, arith}
use Rattle.ist_tree.specs.CallTerms.{MakerFace, PassFace, calls_in}
use Rattle.try_example.proofs.ExchangeLemmas.{both_find}
use Rattle.try_example.proofs.exchange.exchange.Goals as goal

pub returns : goal.returns
returns g c = let new = c.in_ok-tree.ensures.new in
    let made = ap (λ (m : MakerFace). m.made) c.pass-one.ensures.maker in
    let one = c.find_both-one.result.0 in let two = c.find_both-one.result.1 in
    let first_taken = ap (λ (m : MakerFace). m.taken) c.take_back.ensures.maker.same
    ∙ ap (λ t. calls_in one.pass ∷ t)
    (ap (λ (m : MakerFace). m.taken) c.pass-two.ensures.maker
    ∙ ap (λ (m : MakerFace). m.taken) c.pass-one.ensures.maker ∙ new.taken) in
    record {
      found = both_find c.take_back-2.new.maker c.close.result c.close.ensures.stands
          c.args.left c.args.right c.requires.apart
          c.pass-one.result c.pass-two.result c.in_ok-one.one c.in_ok-one.two
          one.pass two.pass one.reply two.reply
          c.in_ok-one.ensures.left c.in_ok-one.ensures.right
          c.find_both-one.ensures.left c.find_both-one.ensures.right
          (ap (λ (p : PassFace). p.number) c.pass-one.ensures.fresh ∙ new.made)
          (omega (arith, ap (λ (p : PassFace). p.number) c.pass-two.ensures.fresh, made, new.made))
          (omega (
            arith,
            ap (λ (m : MakerFace). m.made) c.take_back-2.ensures.maker.same,
            ap (λ (m : MakerFace). m.made) c.take_back.ensures.maker.same,
            ap (λ (m : MakerFace). m.made) c.pass-two.ensures.maker,
            made,
            new.made,
          ))
          (ap (λ (m : MakerFace). m.taken) c.take_back-2.ensures.maker.same ∙ ap (λ t. calls_in two.pass ∷ t) first_taken);
    }
