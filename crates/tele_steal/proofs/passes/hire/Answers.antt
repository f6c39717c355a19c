use Rattle.tele_steal.specs.Runs.{IsNewLane}
use Rattle.tele_steal.proofs.TallyLemmas.{hires}
use Rattle.tele_steal.proofs.passes.hire.Goals as goal

-- the rule has room for a pass
pub another-requires : goal.another-requires
another-requires g c = hires (IsNewLane g.P.Port.calls g.P.Port.refused) _ _ c.requires.owner
    c.requires.settled
