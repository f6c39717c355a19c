use Rattle.std.proofs.Common.{map}
use Rattle.std.proofs.lemmas.Result.{on_ok_weaker}
use Rattle.std.proofs.lemmas.Bool.{not-true, not-false}
use Rattle.ist_core.specs.LogTerms.{Among}
use Rattle.check_fairness.specs.Readings.{rest_at}
use Rattle.check_fairness.proofs.AddedLemmas.{two_added, three_added}
use Rattle.check_fairness.proofs.AnswerLemmas.{goes_free, goes_bound}
use Rattle.check_fairness.proofs.readings.add_after.Goals as goal

pub returns-then-not-reading : goal.returns-then-not-reading
returns-then-not-reading c = let lists = map (λ v. v.items) c.args.lists.now in
    let r = c.args.reading in record {
      added = λ sizes.
          two_added (c.in_ok-add_left_out.ensures.added sizes) (c.in_ok-add_on.ensures.added sizes)
          (goes_bound (λ l. Among l lists) c.args.room r.may (rest_at lists r.list r.at) c.args.size
          sizes r.free (not-true r.free c.if-not-reading.true));
    }

pub returns : goal.returns
returns c = let lists = map (λ v. v.items) c.args.lists.now in let r = c.args.reading in record {
  added = on_ok_weaker c.add_begun.result
      (λ f sizes.
      three_added (c.in_ok-add_left_out.ensures.added sizes) (c.in_ok-add_on.ensures.added
      sizes) (f sizes)
      (goes_free (λ l. Among l lists) c.args.room r.may (rest_at lists r.list r.at) c.args.size
      sizes r.free (not-false r.free c.if-not-reading.false)))
      c.add_begun.ensures.added;
}
