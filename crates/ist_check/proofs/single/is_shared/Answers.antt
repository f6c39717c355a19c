use Rattle.std.proofs.Common.{◌≤◌}
use Rattle.ist_core.specs.WordTerms.{share_from}
use Rattle.check_fairness.proofs.AnswerLemmas.{iff_trans, never}
use Rattle.ist_check.proofs.FinishedLemmas.{finished_so, shared_from, unfinished}
use Rattle.ist_check.proofs.single.is_shared.Goals as goal

pub returns-in-None-finished_keys : goal.returns-in-None-finished_keys
returns-in-None-finished_keys c = record {
  exact = λ t h. never (unfinished c.args.replica.now t c.args.base c.in-Some.row.now h
      c.in-Some.ensures.value (λ k. share_from ≤ k)
      (c.in-None-finished_keys.ensures.exact t h));
}

pub returns-in-Some-finished_keys : goal.returns-in-Some-finished_keys
returns-in-Some-finished_keys c = record {
  exact = λ t h. iff_trans (shared_from c.in-Some-finished_keys.keys)
      (finished_so c.args.replica.now t c.args.base c.in-Some.row.now h c.in-Some.ensures.value
      (λ k. share_from ≤ k) c.in-Some-finished_keys.keys
      (c.in-Some-finished_keys.ensures.exact t h));
}
