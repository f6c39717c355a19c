use Rattle.ist_core.specs.LogTerms.{state}
use Rattle.check_fairness.proofs.AnswerLemmas.{always, iff_trans, is_not}
use Rattle.check_events.proofs.InstallLemmas.{fits_finish, fits_key}
use Rattle.check_events.proofs.installing.fits_kind.Goals as goal

pub returns-then-fits_by_key : goal.returns-then-fits_by_key
returns-then-fits_by_key c = record {
  exact = λ first log h k v s stay.
      always (fits_key first log c.args.change.now c.args.fresh.now
      ((c.fits_by_key.ensures.exact first log h k v stay).0 c.if-fits_by_key.true));
}

pub returns : goal.returns
returns c = record {
  exact = λ first log h k v s stay. let t = state first log in
      iff_trans (c.finishes.ensures.exact t h s)
      (fits_finish first log c.args.change.now c.args.fresh.now
      (is_not c.fits_by_key.result _ (c.fits_by_key.ensures.exact first log h k v stay)
      c.if-fits_by_key.false)
      (is_not c.starts.result _ (c.starts.ensures.exact t h) c.if-starts.false));
}
