use Rattle.check_fairness.proofs.AnswerLemmas.{iff_trans, is_not, never}
use Rattle.check_fairness.proofs.SpareLemmas.{spare_first, spare_not}
use Rattle.check_fairness.proofs.spares.+are_spare.Goals as goal

pub returns-then-not-is_spare : goal.returns-then-not-is_spare
returns-then-not-is_spare t c = record {
  exact = never (spare_not c.args.may c.args.sizes.now c.in-len1-up.len_at_least
      (is_not c.is_spare.result _ c.is_spare.ensures.exact c.if-not-is_spare.true));
}

pub returns-else-not-is_spare : goal.returns-else-not-is_spare
returns-else-not-is_spare t c = let spare = c.is_spare.ensures.exact.0 c.if-not-is_spare.false in
    record {
      exact = iff_trans c.are_spare.ensures.exact (spare_first c.args.may c.args.sizes.now
          c.in-len1-up.len_at_least c.without.result spare c.without.ensures.value);
    }
