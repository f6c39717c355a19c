use Rattle.check_fairness.proofs.AnswerLemmas.{never}
use Rattle.ist_check.proofs.FinishedLemmas.{unfinished}
use Rattle.ist_check.specs.Published.{Any}
use Rattle.ist_check.proofs.single.is_finished.Goals as goal

pub returns-in-None-finished_keys : goal.returns-in-None-finished_keys
returns-in-None-finished_keys c = record {
  exact = λ t h. never (unfinished c.args.replica.now t c.args.base c.in-Some.row.now h
      c.in-Some.ensures.value Any (c.in-None-finished_keys.ensures.exact t h));
}
