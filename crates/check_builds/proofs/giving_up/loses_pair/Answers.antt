use Rattle.std.proofs.Common.{◌≡◌, length, arith}
use Rattle.check_fairness.proofs.AnswerLemmas.{iff_trans, is_not, never}
use Rattle.check_builds.proofs.LoseLemmas.{pair_is, pair_not}
use Rattle.check_builds.proofs.giving_up.loses_pair.Goals as goal

pub returns-then-not-holds_row : goal.returns-then-not-holds_row
returns-then-not-holds_row c = let one : length c.args.bases.now ≡ 1 = omega arith in record {
  exact = λ t h. never (pair_not t c.args.caller c.args.bases.now one
      (is_not c.holds_row.result _ (c.holds_row.ensures.exact t h) c.if-not-holds_row.true));
}

pub returns-else-not-holds_row : goal.returns-else-not-holds_row
returns-else-not-holds_row c = let one : length c.args.bases.now ≡ 1 = omega arith in record {
  exact = λ t h.
      iff_trans (c.has_row_above.ensures.exact t h) (pair_is t c.args.caller c.args.bases.now
      one ((c.holds_row.ensures.exact t h).0 c.if-not-holds_row.false));
}
