use Rattle.std.proofs.Common.{◌∙◌, sym}
use Rattle.check_fairness.proofs.AnswerLemmas.{iff_trans, never}
use Rattle.check_builds.proofs.DrawLemmas.{nth_by_degree, no_such_part, such_part}
use Rattle.check_builds.proofs.building.is_part.Goals as goal

pub returns-in-None : goal.returns-in-None
returns-in-None c =
    let is = nth_by_degree c.args.leaves.now c.degree_of.result c.args.i c.degree_of.ensures.value
    in
    record {
      exact = never (no_such_part c.args.word c.args.i c.args.above c.args.leaves.now
          c.args.rows.now (sym is ∙ c.in-None.ensures.exact));
    }

pub returns-in-Some : goal.returns-in-Some
returns-in-Some c =
    let is = nth_by_degree c.args.leaves.now c.degree_of.result c.args.i c.degree_of.ensures.value
    in
    record {
      exact = iff_trans c.is_ideal.ensures.exact (such_part c.args.word c.args.i c.args.above
          c.args.leaves.now c.args.rows.now c.in-Some.part.now (sym is ∙ c.in-Some.ensures.exact));
    }
