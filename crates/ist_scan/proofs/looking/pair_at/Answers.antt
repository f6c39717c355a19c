use Rattle.std.proofs.Common.{slice_get, ap, ◌∙◌, sym}
use Rattle.ist_tree.proofs.FreezingLemmas.{frozen_pairs_are_one}
use Rattle.ist_scan.proofs.ShotLemmas.{looked}
use Rattle.ist_scan.proofs.looking.pair_at.Goals as goal

pub returns-clause-looked : goal.returns-clause-looked
returns-clause-looked c =
    looked c.args.pass.now c.frozen_pair-pair.new.pass c.frozen_pair-pair.ensures.seen
    c.frozen_pair-pair.ensures.calls c.frozen_pair-pair.ensures.refused c.know.ensures.lawful

pub returns-clause-pair : goal.returns-clause-pair
returns-clause-pair c = λ pairs h.
    (let it = c.frozen_pair-pair.ensures.pair in let p = c.args.pass.now in
    let same = frozen_pairs_are_one p.tree.start p.tree.words p.seen c.args.shot it.found pairs
    it.has h.has in
    ap (λ l. slice_get l c.args.i) (sym same) ∙ it.there)
