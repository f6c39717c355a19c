use Rattle.laws_links.proofs.ChangeLemmas as changes
use Rattle.laws_links.proofs.ResolvedLemmas.{resolved_gone}
use Rattle.laws_links.proofs.links.changes_stand.Goals as goal

pub returns : goal.returns
returns c = record {
  stand = λ pairs words log l. changes.unresolved_stands pairs words l.opens log l.enabled;
  gone = λ pairs words log l. resolved_gone pairs words l.opens log l.enabled;
  undecided = λ pairs words log l. changes.undecided_unresolved pairs words l.opens log l.enabled;
  linked = λ pairs words log l. changes.node_was_linked pairs words l.opens log l.enabled;
}
