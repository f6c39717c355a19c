use Rattle.std.proofs.Common.{sym}
use Rattle.check_fairness.proofs.AnswerLemmas.{finds_same}
use Rattle.check_events.proofs.DecisionLemmas.{change_stands}
use Rattle.check_state.proofs.CallingLemmas.{start_finished}
use Rattle.check_state.proofs.targeting.keys_by_start.Goals as goal

pub returns-in-Some-rebuild_of_word : goal.returns-in-Some-rebuild_of_word
returns-in-Some-rebuild_of_word c = let row = c.in-Some.row.now in let base = c.args.change in
    let found = c.in-Some-rebuild_of_word in record {
      exact = λ t mirrors.
          let stands = change_stands c.args.replica.now t base mirrors row
          (sym c.in-Some.ensures.value) in
          finds_same _ _ c.target_keys.result
          (λ k. start_finished t base found.rebuild k row stands c.if-row-ne-START_KIND.false
          found.ensures.exact.0)
          (c.target_keys.ensures.exact t mirrors);
    }
