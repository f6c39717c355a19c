use Rattle.std.proofs.Common.{map}
use Rattle.std.proofs.lemmas.Result.{on_ok_weaker}
use Rattle.ist_core.specs.LogTerms.{Among}
use Rattle.check_fairness.specs.Readings.{rest_at}
use Rattle.check_fairness.proofs.AnswerLemmas.{is_not, out_is}
use Rattle.check_fairness.proofs.AddedLemmas.{none_added, other_added}
use Rattle.check_fairness.proofs.readings.add_left_out.Goals as goal

pub returns-then-not-is_spare : goal.returns-then-not-is_spare
returns-then-not-is_spare c = record {
  added = λ sizes. none_added (λ l. is_not c.is_spare.result _ c.is_spare.ensures.exact
      c.if-not-is_spare.true l.0);
}

pub returns : goal.returns
returns c = let lists = map (λ v. v.items) c.args.lists.now in let r = c.args.reading in
    let spare = c.is_spare.ensures.exact.0 c.if-not-is_spare.false in record {
      added = on_ok_weaker c.add_reading.result
          (λ f sizes. other_added (f sizes) (out_is (λ l. Among l lists) c.args.room r.may
          c.without.result (rest_at lists r.list r.at) r.free c.args.size sizes spare
          c.without.ensures.value))
          c.add_reading.ensures.added;
    }
