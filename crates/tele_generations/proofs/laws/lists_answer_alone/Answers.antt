use Rattle.tele_generations.proofs.RestingListLemmas.{lists_alone, keys_alone}
use Rattle.tele_generations.proofs.laws.lists_answer_alone.Goals as goal

pub returns : goal.returns
returns c = record { replies = lists_alone; values = keys_alone }
