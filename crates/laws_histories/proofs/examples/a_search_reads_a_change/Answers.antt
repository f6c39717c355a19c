use Rattle.laws_histories.proofs.PositionLemmas.{search_after, search_before}
use Rattle.laws_histories.proofs.examples.a_search_reads_a_change.Goals as goal

pub returns : goal.returns
returns c = record { following = search_after; before = search_before }
