use Rattle.std.proofs.Common.{arith}
use Rattle.std.proofs.lemmas.Result.{on_ok_weaker}
use Rattle.check_state.proofs.PublishLemmas.{mirrors_row, two_words}
use Rattle.check_state.proofs.publishing.put_as_leaf.Goals as goal

pub returns-in-len2 : goal.returns-in-len2
returns-in-len2 c =
    let is = two_words c.args.words.now (omega (arith, c.in-len2.len_at_least, c.in-len2.len_below))
    in
    record {
      exact = on_ok_weaker c.put_leaf.result (λ f t h. mirrors_row c.put_leaf.new.replica t
          c.args.base _ _ is (f t h)) c.put_leaf.ensures.exact;
    }
