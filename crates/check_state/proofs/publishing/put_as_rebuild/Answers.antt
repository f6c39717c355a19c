use Rattle.std.proofs.Common.{arith}
use Rattle.std.proofs.lemmas.Result.{on_ok_weaker}
use Rattle.check_state.proofs.PublishLemmas.{mirrors_row, five_words}
use Rattle.check_state.proofs.publishing.put_as_rebuild.Goals as goal

pub returns-in-len5 : goal.returns-in-len5
returns-in-len5 c =
    let is = five_words c.args.words.now
    (omega (arith, c.in-len5.len_at_least, c.in-len5.len_below)) in
    record {
      exact = on_ok_weaker c.put_rebuild.result (λ f t h. mirrors_row c.put_rebuild.new.replica
          t c.args.base _ _ is (f t h)) c.put_rebuild.ensures.exact;
    }
