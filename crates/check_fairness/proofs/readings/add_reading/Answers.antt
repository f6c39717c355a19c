use Rattle.std.proofs.Common.{map, subst}
use Rattle.check_fairness.specs.Readings.{IsLeftBefore}
use Rattle.check_fairness.proofs.AnswerLemmas.{reached_added, some_pushed}
use Rattle.check_fairness.proofs.readings.add_reading.Goals as goal

pub returns-then-is_reached : goal.returns-then-is_reached
returns-then-is_reached c = let lists = map (λ v. v.items) c.args.lists.now in
    let reached = subst (λ rs. IsLeftBefore lists rs c.args.reading) c.as_slice.ensures.value
    (c.is_reached.ensures.exact.0 c.if-is_reached.true) in
    record {
      added = λ sizes. reached_added lists c.args.room sizes c.args.readings.now.items
          c.args.reading reached;
    }

pub returns : goal.returns
returns c = record {
  added = λ sizes. some_pushed (map (λ v. v.items) c.args.lists.now) c.args.room sizes
      c.args.readings.now.items c.push.new.self.items c.args.reading c.in_ok-push.ensures.items;
}
