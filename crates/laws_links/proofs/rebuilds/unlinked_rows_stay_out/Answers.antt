use Rattle.laws_links.proofs.ReturnLemmas.{unlinked_stays}
use Rattle.laws_links.proofs.rebuilds.unlinked_rows_stay_out.Goals as goal

pub returns : goal.returns
returns c = record {
  out = λ pairs words earlier log l on node was unlinked. (unlinked_stays pairs words l.opens earlier log on l.enabled node was unlinked).0;
}
