use Rattle.std.proofs.Common.{sym}
use Rattle.check_fairness.proofs.AnswerLemmas.{finds_same}
use Rattle.check_events.proofs.DecisionLemmas.{rebuild_stands}
use Rattle.check_events.proofs.MarkLemmas.{target_is}
use Rattle.check_events.proofs.marking.target_keys.Goals as goal

pub returns-in-Some : goal.returns-in-Some
returns-in-Some c = record {
  exact = λ t h.
      let stands = rebuild_stands c.args.replica.now t c.args.rebuild h c.in-Some.row.now
      (sym c.in-Some.ensures.value) in
      finds_same _ _ c.finished_keys.result (λ k. target_is t c.args.rebuild k c.in-Some.row.now
      stands) (c.finished_keys.ensures.exact t h);
}
