-- What is added is a target of the rebuild that the word names.
use Rattle.std.proofs.lemmas.Result.{on_ok_weaker}
use Rattle.check_state.proofs.CallingLemmas.{more_words, rebuild_calls}
use Rattle.check_state.proofs.calling.call_by_word.Goals as goal

pub returns-in-Some-rebuild_of_word : goal.returns-in-Some-rebuild_of_word
returns-in-Some-rebuild_of_word c = let found = c.in-Some-rebuild_of_word in record {
  exact = on_ok_weaker c.call_target.result
      (λ exact t mirrors node. more_words (exact t mirrors node)
      (rebuild_calls t c.args.word found.rebuild node found.ensures.exact.0))
      c.call_target.ensures.exact;
}
