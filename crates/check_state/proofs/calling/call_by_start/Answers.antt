-- What is added is a target of the rebuild that the change starts.
use Rattle.std.proofs.Common.{sym}
use Rattle.std.proofs.lemmas.Result.{on_ok_weaker}
use Rattle.check_events.proofs.DecisionLemmas.{change_stands}
use Rattle.check_state.proofs.CallingLemmas.{more_words, start_calls}
use Rattle.check_state.proofs.calling.call_by_start.Goals as goal

pub returns-in-Some-rebuild_of_word : goal.returns-in-Some-rebuild_of_word
returns-in-Some-rebuild_of_word c = let row = c.in-Some.row.now in let base = c.args.change in
    let found = c.in-Some-rebuild_of_word in record {
      exact = on_ok_weaker c.call_target.result
          (λ exact t mirrors node.
          let stands = change_stands c.args.replica.now t base mirrors row
          (sym c.in-Some.ensures.value) in
          more_words (exact t mirrors node)
          (start_calls t base found.rebuild node row stands c.if-row-ne-START_KIND.false
          found.ensures.exact.0))
          c.call_target.ensures.exact;
    }
