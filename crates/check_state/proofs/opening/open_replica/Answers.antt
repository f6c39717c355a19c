use Rattle.std.proofs.Common.{◌∙◌, ap, arith, length, refl, None}
use Rattle.ist_core.specs.WordTerms.{first_row, word_of, start, tree_at}
use Rattle.ist_image.proofs.PlacingSizeLemmas.{few_fit, opens_fit}
use Rattle.check_fairness.proofs.AnswerLemmas.{finds_none}
use Rattle.check_state.proofs.LaidLemmas.{opened}
use Rattle.check_state.proofs.opening.open_replica.Goals as goal

pub ideal_words-requires : goal.ideal_words-requires
ideal_words-requires c =
    let few = few_fit first_row (length c.args.pairs.now)
    (opens_fit c.args.pairs.now c.args.words c.requires.opens) in
    record { fits = omega arith }

pub put_tree-requires-clause-few : goal.put_tree-requires-clause-few
put_tree-requires-clause-few c = few_fit first_row (length c.args.pairs.now)
    (opens_fit c.args.pairs.now c.args.words c.requires.opens)

pub returns : goal.returns
returns c = let pairs = c.args.pairs.now in let t = start pairs c.args.words in
    let words = c.ideal_words.ensures.value in record {
      mirrors = opened c.put_tree.new.replica t c.from-first.result pairs c.from-first.ensures
          (c.in_ok-put_tree.ensures.exact (record t { pieces = λ base. None })
          record {
            words = refl;
            next = omega arith;
            callers = refl;
            anchor = c.tree_word.ensures.value pairs refl ∙ ap (λ base. word_of (tree_at base pairs))
                c.from-first.ensures;
            leaves = λ base. finds_none c.new.result base c.new.ensures.empty;
            inners = λ base. finds_none c.new-2.result base c.new-2.ensures.empty;
            changes = λ base. finds_none c.new-3.result base c.new-3.ensures.empty;
            rebuilds = λ base. finds_none c.new-4.result base c.new-4.ensures.empty;
            held = c.no_rows.ensures.none;
          });
    }
