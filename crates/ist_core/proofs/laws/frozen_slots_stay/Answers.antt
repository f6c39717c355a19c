use Rattle.ist_core.proofs.FrozenLemmas as frozen
use Rattle.ist_core.proofs.laws.frozen_slots_stay.Goals as goal

pub returns : goal.returns
returns c = record {
  reads = λ pairs words log lawful node i passed word p slot.
      frozen.frozen_reads pairs words lawful.opens log lawful.enabled node i passed word p slot;
  keeps = λ pairs words log lawful node i passed p. frozen.closed pairs words lawful.opens log
      lawful.enabled node i passed p;
  agree = λ pairs words log lawful node i word other p q.
      frozen.passes_agree pairs words lawful.opens log lawful.enabled node i word other p q;
}
