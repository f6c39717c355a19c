use Rattle.std.proofs.Common.{All, sym, subst}
use Rattle.std.proofs.lemmas.List.Elements.{All-append}
use Rattle.tele_steal.specs.Runs.{IsRunLane}
use Rattle.tele_steal.proofs.collecting.take_hand.Goals as goal

-- the lanes before were run, and the lanes of the bag
pub returns-clause-ran : goal.returns-clause-ran
returns-clause-ran g c before = let Ran = IsRunLane g.P.Port.calls g.P.Port.refused in
    subst (All Ran) (sym c.in-Ok.ensures.items)
    (All-append Ran c.args.lanes.now.items c.args.hand.bag.items before c.requires.ran)
