use Rattle.std.proofs.Common.{◌≡◌, sym, subst, Some, None, arith}
use Rattle.std.specs.Ordering.{nat_cmp}
use Rattle.std.specs.BTreeMap as tree
use Rattle.check_events.specs.Remembering.{pair_key}
use Rattle.check_fairness.proofs.AnswerLemmas.{finds_same}
use Rattle.check_events.proofs.MarkLemmas.{pass_counts, none_passed}
use Rattle.check_events.proofs.marking.passed_keys.Goals as goal

pub returns-in-None : goal.returns-in-None
returns-in-None c = record {
  exact = λ t log h k x. let passed = c.args.past.now.passed in
      let there : tree.get nat_cmp passed (pair_key c.args.node c.args.i) ≡ None = subst
      (λ y. tree.get nat_cmp passed y ≡ None) c.pair_key.ensures.value
      (sym c.in-None.ensures.value) in
      none_passed t log passed c.args.node c.args.i x k (omega arith) (omega arith) there;
}

pub returns-in-Some : goal.returns-in-Some
returns-in-Some c = record {
  exact = λ t log h k. let passed = c.args.past.now.passed in let word = c.in-Some.word.now in
      let there : tree.get nat_cmp passed (pair_key c.args.node c.args.i) ≡ Some word = subst
      (λ y. tree.get nat_cmp passed y ≡ Some word) c.pair_key.ensures.value
      (sym c.in-Some.ensures.value) in
      finds_same _ _ c.keys_of_word.result (λ x. pass_counts t log passed c.args.node c.args.i
      word x k (omega arith) (omega arith) there) (c.keys_of_word.ensures.exact t h);
}
