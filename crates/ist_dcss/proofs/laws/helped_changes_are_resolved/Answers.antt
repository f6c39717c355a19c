use Rattle.ist_dcss.proofs.ResolvedLemmas.{resolved_helped}
use Rattle.ist_dcss.proofs.laws.helped_changes_are_resolved.Goals as goal

pub returns : goal.returns
returns c = record {
  resolved = λ v w x number base f mine all i g out.
      resolved_helped v w x number base f mine all i g out;
}
