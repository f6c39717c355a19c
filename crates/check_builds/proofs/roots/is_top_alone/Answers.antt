use Rattle.check_fairness.proofs.AnswerLemmas.{never}
use Rattle.check_builds.proofs.RootLemmas.{no_top_alone}
use Rattle.check_builds.proofs.roots.is_top_alone.Goals as goal

pub returns-in-None-top_slots : goal.returns-in-None-top_slots
returns-in-None-top_slots c = record {
  exact = never (no_top_alone c.args.word 0 c.args.leaves.now c.args.target c.args.rows.now
      c.index-rows-0-in-Some.result c.index-rows-0-in-Some.is
      c.in-None-top_slots.ensures.exact);
}
