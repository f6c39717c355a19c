use Rattle.tele_steal.specs.Runs.{IsNewLane}
use Rattle.tele_steal.proofs.TallyLemmas.{puts}
use Rattle.tele_steal.proofs.passes.put.Goals as goal

-- the rule is kept by one more lane
pub push_as-requires-clause-pushes : goal.push_as-requires-clause-pushes
push_as-requires-clause-pushes g c =
    puts (IsNewLane g.P.Port.calls g.P.Port.refused) _ _ _ c.requires.owner c.requires.few
    c.requires.fresh
