use Rattle.check_state.proofs.PublishLemmas.{mirrors_row, long_words}
use Rattle.std.proofs.lemmas.Result.{on_ok_weaker}
use Rattle.check_state.proofs.publishing.put_as_inner.Goals as goal

pub returns-in_ok-words_of-in-len4-up-2 : goal.returns-in_ok-words_of-in-len4-up-2
returns-in_ok-words_of-in-len4-up-2 c =
    let is = long_words c.args.words.now c.keys_end-end.result c.in_ok-words_of-in-len4-up.field-0
    c.in_ok-words_of-in-len4-up-2.field-0 c.in-len4-up.len_at_least c.keys_end-end.ensures.value
    c.in_ok-words_of-in-len4-up.ensures.value c.in_ok-words_of-in-len4-up-2.ensures.value in
    record {
      exact = on_ok_weaker c.put_inner.result (λ f t h. mirrors_row c.put_inner.new.replica t
          c.args.base _ _ is (f t h)) c.put_inner.ensures.exact;
    }
