use Rattle.tele_generations.proofs.TurnLemmas.{round_begins, round_goes_on, lanes_turn, one_line, tasks_counted, round_ends}
use Rattle.tele_generations.proofs.laws.turns_answer_all.Goals as goal
use Rattle.ist_core.proofs.AllPlaceLemmas.{map_of-pairs_of}

pub returns : goal.returns
returns c = record {
  begins = round_begins;
  goes_on = round_goes_on;
  lanes = lanes_turn;
  one_line = one_line;
  counted = tasks_counted;
  ends = round_ends;
  pairs = map_of-pairs_of;
}
