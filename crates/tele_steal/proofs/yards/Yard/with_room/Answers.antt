use Rattle.tele_steal.specs.Runs.{IsNewLane}
use Rattle.tele_steal.proofs.TallyLemmas.{begins}
use Rattle.tele_steal.proofs.yards.Yard.with_room.Goals as goal

-- the rule holds of an empty deque
pub fifo_as-requires : goal.fifo_as-requires
fifo_as-requires g c = begins (IsNewLane g.P.Port.calls g.P.Port.refused)
