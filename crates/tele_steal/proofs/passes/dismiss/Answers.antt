use Rattle.tele_steal.specs.Runs.{IsNewLane}
use Rattle.tele_steal.proofs.TallyLemmas.{dismisses, counts}
use Rattle.tele_steal.proofs.OwnerLemmas.{is_owners}
use Rattle.tele_steal.proofs.passes.dismiss.Goals as goal

-- the rule is kept
pub absorb-requires-clause-rule : goal.absorb-requires-clause-rule
absorb-requires-clause-rule g c =
    dismisses (IsNewLane g.P.Port.calls g.P.Port.refused) _ _ _ _ c.requires.owner c.requires.worker

-- the rule says how much came back
pub len_as-requires : goal.len_as-requires
len_as-requires g c = counts (IsNewLane g.P.Port.calls g.P.Port.refused) _ _
    (is_owners _ _ _ _ c.absorb.ensures.rule)
