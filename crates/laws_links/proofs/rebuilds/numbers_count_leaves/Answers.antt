use Rattle.laws_links.proofs.ContentLemmas as finished
use Rattle.laws_links.proofs.NumberLemmas.{number_is}
use Rattle.laws_links.proofs.rebuilds.numbers_count_leaves.Goals as goal

pub returns : goal.returns
returns c = record {
  leaves = λ pairs words log l node k f. let it = finished.finished_leaves pairs words l.opens log l.enabled node k f in (it.0, it.1);
  number = λ pairs words log l. number_is pairs words l.opens log l.enabled;
  low = λ pairs words log l. finished.finished_few pairs words l.opens log l.enabled;
}
