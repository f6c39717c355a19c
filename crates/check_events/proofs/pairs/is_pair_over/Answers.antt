use Rattle.std.proofs.Common.{◌≡◌, ◌∙◌, get_or, length, sym, arith, eq-eqb}
use Rattle.ist_core.specs.WordTerms.{LeafAt, word_of}
use Rattle.check_fairness.proofs.AnswerLemmas.{is_equal}
use Rattle.check_events.proofs.RowLemmas.{pair_over_is}
use Rattle.check_events.proofs.pairs.is_pair_over.Goals as goal

pub returns-else-from-leaf_word : goal.returns-else-from-leaf_word
returns-else-from-leaf_word c = let ws = c.as_slice.result.now in
    let seven : length ws ≡ 7 = omega arith in
    let left : get_or ws 5 0 ≡ word_of (LeafAt c.args.left) = sym c.from.ensures
    ∙ c.if-from-leaf_word.false ∙ c.leaf_word.ensures.value in
    let is = pair_over_is c.args.row.now ws c.args.base c.args.key c.args.left c.args.right
    c.as_slice.ensures.value seven (omega arith) (omega arith) (omega arith) (omega arith)
    (omega arith) (omega arith) left in
    record {
      exact = (
        (λ y. is.0 (sym c.from-in-len7.ensures ∙ is_equal c.from-in-len7.result
            c.leaf_word-in-len7.result y ∙ c.leaf_word-in-len7.ensures.value)),
        (λ e. eq-eqb c.from-in-len7.result c.leaf_word-in-len7.result (c.from-in-len7.ensures
            ∙ is.1 e ∙ sym c.leaf_word-in-len7.ensures.value)),
      );
    }
