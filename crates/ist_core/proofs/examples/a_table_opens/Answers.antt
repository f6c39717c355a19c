use Rattle.ist_core.proofs.StartExampleLemmas.{two_pairs_open, ten_laid}
use Rattle.ist_core.proofs.examples.a_table_opens.Goals as goal

pub returns : goal.returns
returns c = record { image = two_pairs_open; ten = ten_laid }
