use Rattle.ist_dcss.proofs.CallingLemmas.{open_unrefused}
use Rattle.ist_dcss.proofs.DecideLemmas.{closed_node_stays}
use Rattle.ist_dcss.proofs.laws.nodes_close_once.Goals as goal

pub returns : goal.returns
returns c = record {
  closed = λ pairs words earlier log lawful g node is shut.
      closed_node_stays pairs words earlier log lawful g node is shut;
  unrefused = λ v s node is number. open_unrefused v s number node is;
}
