use Rattle.laws_histories.proofs.ReachedByKeyLemmas.{rebuild_changes}
use Rattle.laws_histories.proofs.examples.a_rebuild_leaves_the_map.Goals as goal

pub returns : goal.returns
returns c = record { changes = rebuild_changes }
