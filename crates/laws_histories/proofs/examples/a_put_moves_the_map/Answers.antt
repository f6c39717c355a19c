use Rattle.laws_histories.proofs.PositionLemmas.{put_changes, put_contents}
use Rattle.laws_histories.proofs.examples.a_put_moves_the_map.Goals as goal

pub returns : goal.returns
returns c = record { changes = put_changes; contents = put_contents }
