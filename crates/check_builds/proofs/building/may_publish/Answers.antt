use Rattle.check_fairness.proofs.AnswerLemmas.{iff_trans, never, is_not}
use Rattle.check_builds.proofs.building.may_publish.Goals as goal

pub returns-then-not-holds_rows : goal.returns-then-not-holds_rows
returns-then-not-holds_rows c = record {
  exact = λ t h. never (λ p. is_not c.holds_rows.result _ (c.holds_rows.ensures.exact t
      h) c.if-not-holds_rows.true p.held);
}

pub returns : goal.returns
returns c = record {
  exact = λ t h. let held = (c.holds_rows.ensures.exact t h).0 c.if-not-holds_rows.false in
      iff_trans c.are_apart.ensures.exact (
        (λ once. record { held = held; once = once }),
        (λ p. p.once),
      );
}
