use Rattle.ist_core.specs.LogTerms.{state_of}
use Rattle.ist_core.proofs.OrderLemmas.{names, child_above}
use Rattle.ist_core.proofs.laws.children_lie_above.Goals as goal

pub returns : goal.returns
returns c = record {
  above = λ pairs words log lawful node i child h.
      child_above (state_of pairs words log) node i child
      (names pairs words lawful.opens log lawful.enabled) h;
}
