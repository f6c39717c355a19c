use Rattle.std.proofs.Common.{arith}
use Rattle.std.proofs.lemmas.List.{nil_from_length}
use Rattle.check_fairness.proofs.AnswerLemmas.{iff_trans}
use Rattle.check_events.proofs.CountLemmas.{finishes_is}
use Rattle.check_events.proofs.kinds.finishes.Goals as goal

pub returns-in-Some : goal.returns-in-Some
returns-in-Some c = record {
  exact = λ t h k. let none = nil_from_length c.args.fresh.now (omega arith) in
      iff_trans (c.is_finish_of.ensures.exact t h k) (finishes_is t c.args.change.now
      c.args.fresh.now c.in-Some.rebuild (omega arith) (omega arith) (omega arith) none
      c.in-Some.ensures.exact.0);
}
