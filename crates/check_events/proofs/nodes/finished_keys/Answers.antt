use Rattle.std.proofs.Common.{sym}
use Rattle.check_fairness.proofs.AnswerLemmas.{finds_same}
use Rattle.check_events.proofs.DecisionLemmas.{inner_stands}
use Rattle.check_events.proofs.MarkLemmas.{finished_is}
use Rattle.check_events.proofs.nodes.finished_keys.Goals as goal

pub returns-in-Some : goal.returns-in-Some
returns-in-Some c = record {
  exact = λ t h.
      let stands = inner_stands c.args.replica.now t c.args.node h c.in-Some.row.now
      (sym c.in-Some.ensures.value) in
      finds_same _ _ c.keys_of_status.result (λ k. finished_is t c.args.node k c.in-Some.row.now
      stands) c.keys_of_status.ensures.exact;
}
