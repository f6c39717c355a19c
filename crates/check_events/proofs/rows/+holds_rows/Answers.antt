use Rattle.std.proofs.Common.{◌↔◌, IsTrue, subst, length}
use Rattle.ist_core.specs.LogTerms.{HoldsRow}
use Rattle.check_fairness.proofs.AnswerLemmas.{iff_trans, never, is_not}
use Rattle.check_events.proofs.RowLemmas.{holds_first, lacks_first}
use Rattle.check_events.proofs.rows.+holds_rows.Goals as goal

pub returns-then-not-holds_row : goal.returns-then-not-holds_row
returns-then-not-holds_row t c = record {
  exact = λ u h.
      let tested = subst (λ ws. IsTrue c.holds_row.result ↔ HoldsRow u c.args.caller
      c.row-item.result.base (length ws)) c.as_slice.ensures.value
      (c.holds_row.ensures.exact u h) in
      never (lacks_first u c.args.caller c.args.rows.now c.row-item.result
      c.in-len1-up.len_at_least c.row-item.is (is_not c.holds_row.result _ tested
      c.if-not-holds_row.true));
}

pub returns-else-not-holds_row : goal.returns-else-not-holds_row
returns-else-not-holds_row t c = record {
  exact = λ u h.
      let tested = subst (λ ws. IsTrue c.holds_row.result ↔ HoldsRow u c.args.caller
      c.row-item.result.base (length ws)) c.as_slice.ensures.value
      (c.holds_row.ensures.exact u h) in
      iff_trans (c.holds_rows.ensures.exact u h) (holds_first u c.args.caller c.args.rows.now
      c.row-item.result c.in-len1-up.len_at_least c.row-item.is
      (tested.0 c.if-not-holds_row.false));
}
