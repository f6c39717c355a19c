use Rattle.std.proofs.Common.{arith}
use Rattle.ist_core.specs.LogTerms.{state}
use Rattle.check_fairness.proofs.AnswerLemmas.{iff_trans, is_not, never}
use Rattle.check_events.proofs.InstallLemmas.{install_is, install_stands, reads_change}
use Rattle.check_events.proofs.installing.can_install.Goals as goal

pub returns-then-not-holds_rows : goal.returns-then-not-holds_rows
returns-then-not-holds_rows c = record {
  exact = λ first log h k w r s stay.
      never (λ x. is_not c.holds_rows.result _
      (c.holds_rows.ensures.exact (state first log) h) c.if-not-holds_rows.true x.held);
}

pub returns-then-not-may_stand : goal.returns-then-not-may_stand
returns-then-not-may_stand c = record {
  exact = λ first log h k w r s stay.
      let reads = reads_change c.row-item.result.words _ _ _ c.as_slice.ensures.value
      c.change_of_words.ensures.value c.in-Some.is in
      let other = is_not c.may_stand.result _ (c.may_stand.ensures.exact first log h k r)
      c.if-not-may_stand.true in
      never (λ x. other (install_stands first log c.args.caller c.args.base c.args.rows.now
      c.row-item.result c.in-Some.change c.in-len1-up.len_at_least c.row-item.is (omega arith) reads x));
}

pub returns-else-not-may_stand : goal.returns-else-not-may_stand
returns-else-not-may_stand c = record {
  exact = λ first log h k w r s stay. let row = c.row-item.result in
      let reads = reads_change row.words _ _ _ c.as_slice.ensures.value
      c.change_of_words.ensures.value c.in-Some.is in
      let held = (c.holds_rows.ensures.exact (state first log) h).0 c.if-not-holds_rows.false in
      let stand = (c.may_stand.ensures.exact first log h k r).0 c.if-not-may_stand.false in
      iff_trans (c.fits_kind.ensures.exact first log h k w s stay)
      (install_is first log c.args.caller c.args.base c.args.rows.now row c.in-Some.change
      c.in-len1-up.len_at_least c.row-item.is (omega arith) reads
      (omega (arith, h.callers)) held stand);
}
