use Rattle.tele_generations.proofs.ExampleLemmas.{put_ran, put_under_way}
use Rattle.tele_generations.proofs.examples.a_turn_leaves_a_line.Goals as goal

pub returns : goal.returns
returns c = record { ran = put_ran; way = put_under_way }
