use Rattle.check_fairness.proofs.AnswerLemmas.{iff_trans, is_not}
use Rattle.check_events.proofs.KindLemmas.{room_is}
use Rattle.check_events.proofs.kinds.has_room_for.Goals as goal

pub returns : goal.returns
returns c = record {
  exact = λ t h.
      let far = is_not c.names_nothing.result _ c.names_nothing.ensures.exact
      c.if-names_nothing.false in
      iff_trans (c.names_leaf_of.ensures.exact t h) (room_is t c.args.key c.args.word far);
}
