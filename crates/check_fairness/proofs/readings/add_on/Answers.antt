use Rattle.std.proofs.Common.{map}
use Rattle.std.proofs.lemmas.Result.{on_ok_weaker}
use Rattle.check_fairness.proofs.AddedLemmas.{none_added, other_added}
use Rattle.check_fairness.proofs.BuildingListLemmas.{nothing_on, other_on, this_on}
use Rattle.check_fairness.proofs.readings.add_on.Goals as goal

pub returns-in-empty : goal.returns-in-empty
returns-in-empty c = let lists = map (λ v. v.items) c.args.lists.now in record {
  added = λ sizes. none_added (nothing_on lists c.args.room c.args.may c.args.list c.args.at
      c.rest_of-left.result.now c.rest_of-left.ensures.value c.args.size sizes
      c.in-empty.len_below);
}

pub returns-then-first-size : goal.returns-then-first-size
returns-then-first-size c = let lists = map (λ v. v.items) c.args.lists.now in record {
  added = λ sizes. none_added (other_on lists c.args.room c.args.may c.args.list c.args.at
      c.rest_of-left.result.now c.rest_of-left.ensures.value c.args.size sizes
      c.if-first-size.true);
}

pub returns-else-first-size : goal.returns-else-first-size
returns-else-first-size c = let lists = map (λ v. v.items) c.args.lists.now in record {
  added = on_ok_weaker c.add_reading.result
      (λ f sizes. other_added (f sizes)
      (this_on lists c.args.room c.args.may c.args.list c.args.at c.rest_of-left.result.now
      c.rest_of-left.ensures.value c.args.size sizes c.is_full.result
      c.in-len1-up.len_at_least c.if-first-size.false c.is_full.ensures.value))
      c.add_reading.ensures.added;
}
