use Rattle.tele_steal.specs.Runs.{IsNewLane}
use Rattle.tele_steal.proofs.TallyLemmas.{draws, all_back}
use Rattle.tele_steal.proofs.passes.draw.Goals as goal

-- the rule is kept
pub pop_as-requires-clause-fifo : goal.pop_as-requires-clause-fifo
pop_as-requires-clause-fifo g c first = draws (IsNewLane g.P.Port.calls g.P.Port.refused) _ _
    c.requires.owner

-- the rule says that all came back
pub pop_as-requires-clause-empty : goal.pop_as-requires-clause-empty
pop_as-requires-clause-empty g c = all_back (IsNewLane g.P.Port.calls g.P.Port.refused) _ _
    c.requires.owner
