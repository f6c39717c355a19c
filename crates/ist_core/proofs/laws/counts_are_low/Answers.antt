use Rattle.ist_core.proofs.YesLemmas as yes_changes
use Rattle.ist_core.proofs.laws.counts_are_low.Goals as goal

pub returns : goal.returns
returns c = record {
  few = λ pairs words log lawful node row e. yes_changes.count_few pairs words log
      lawful.enabled node row e;
  low = λ pairs words log lawful node row e. yes_changes.count_low pairs words lawful.opens log
      lawful.enabled node row e;
}
