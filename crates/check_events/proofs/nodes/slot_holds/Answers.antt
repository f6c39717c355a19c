use Rattle.std.proofs.Common.{refl}
use Rattle.check_fairness.proofs.AnswerLemmas.{is_not, iff_trans}
use Rattle.check_events.proofs.DecisionLemmas.{slot_of_row, slot_of_anchor}
use Rattle.check_events.proofs.nodes.slot_holds.Goals as goal

pub returns-then-anchor_holds : goal.returns-then-anchor_holds
returns-then-anchor_holds c = record {
  exact = λ t h. (
    (λ _. slot_of_anchor t c.args.node c.args.i c.args.word
        ((c.anchor_holds.ensures.exact t h).0 c.if-anchor_holds.true)),
    (λ _. refl),
  );
}

pub returns : goal.returns
returns c = record {
  exact = λ t h.
      let far = is_not c.anchor_holds.result _ (c.anchor_holds.ensures.exact t h)
      c.if-anchor_holds.false in
      iff_trans (c.row_holds.ensures.exact t h) (slot_of_row t c.args.node c.args.i c.args.word
      far);
}
