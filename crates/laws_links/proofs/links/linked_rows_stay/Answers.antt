use Rattle.laws_links.proofs.LinkLemmas as links
use Rattle.laws_links.proofs.ClosedLemmas.{closed_was_linked}
use Rattle.laws_links.proofs.FinishedLemmas.{finished_down}
use Rattle.laws_links.proofs.links.linked_rows_stay.Goals as goal

pub returns : goal.returns
returns c = record {
  linked = λ pairs words log l. links.linked_or_finished pairs words l.opens log l.enabled;
  still_open = λ pairs words log l. links.open_linked pairs words l.opens log l.enabled;
  closed = λ pairs words log l. closed_was_linked pairs words l.opens log l.enabled;
  below = λ pairs words log l. finished_down pairs words l.opens log l.enabled;
}
