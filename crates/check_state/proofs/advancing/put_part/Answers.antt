use Rattle.check_state.proofs.EventLemmas.{placed_some}
use Rattle.check_state.proofs.advancing.put_part.Goals as goal

pub returns-in-Some-inner_of_word : goal.returns-in-Some-inner_of_word
returns-in-Some-inner_of_word c = record {
  exact = λ t h.
      placed_some c.set_row_slot.new.replica t t.pieces c.args.part c.args.word c.args.found
      c.in-Some.row c.in-Some-inner_of_word.root c.in-Some.is
      c.in-Some-inner_of_word.ensures.exact.0 (c.set_row_slot.ensures.exact t h);
}
