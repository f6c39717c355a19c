use Rattle.laws_calls.proofs.ClosedLemmas.{open_unrefused, refused_closed}
use Rattle.laws_calls.proofs.settling.refused_nodes_are_closed.Goals as goal

pub returns : goal.returns
returns c = record {
  closed = λ pairs words log l. refused_closed pairs words l.opens log l.enabled;
  unrefused = λ pairs words log l. open_unrefused pairs words l.opens log l.enabled;
}
