use Rattle.laws_links.proofs.OpenRowLemmas.{rest_is_open}
use Rattle.laws_links.proofs.rebuilds.rows_are_open_at_rest.Goals as goal

pub returns : goal.returns
returns c = record {
  all_open = λ pairs words log l. rest_is_open pairs words l.opens log l.enabled;
}
