use Rattle.check_fairness.proofs.AnswerLemmas.{never}
use Rattle.check_builds.specs.Built.{BuildsAt}
use Rattle.check_builds.proofs.RootLemmas.{none_whole, some_whole}
use Rattle.check_builds.proofs.roots.is_ideal.Goals as goal

pub returns-in-None : goal.returns-in-None
returns-in-None c = record {
  exact = never (none_whole (λ rs. BuildsAt c.args.word c.args.leaves.now
      c.args.above rs) c.args.rows.now c.in-None.ensures.exact);
}

pub returns-in-Some : goal.returns-in-Some
returns-in-Some c = record {
  exact = some_whole (λ rs. BuildsAt c.args.word c.args.leaves.now
      c.args.above rs) c.args.rows.now c.in-Some.used c.in-Some.ensures.exact;
}
