use Rattle.std.proofs.Common.{arith}
use Rattle.ist_core.proofs.AllWordLemmas.{ideal_words_nine}
use Rattle.ist_math.proofs.SizeLemmas.{words_from_both}
use Rattle.ist_math.proofs.sizes.words_of_node.Goals as goal

-- all products and sums are parts of the result, which is at most nine words a key
pub overflow_mul-result : goal.overflow_mul-result
overflow_mul-result c =
    let whole =
    words_from_both c.args.n c.degree-children.result c.args.shortest
    c.args.parts.first c.args.parts.second
    (omega arith) (omega arith) (omega arith) (omega arith) (omega arith) (omega arith) in
    omega (arith, ideal_words_nine c.args.n)

pub overflow_mul-result-2 : goal.overflow_mul-result-2
overflow_mul-result-2 c =
    let whole =
    words_from_both c.args.n c.degree-children.result c.args.shortest
    c.args.parts.first c.args.parts.second
    (omega arith) (omega arith) (omega arith) (omega arith) (omega arith) (omega arith) in
    omega (arith, ideal_words_nine c.args.n)

pub overflow_add-result : goal.overflow_add-result
overflow_add-result c =
    let whole =
    words_from_both c.args.n c.degree-children.result c.args.shortest
    c.args.parts.first c.args.parts.second
    (omega arith) (omega arith) (omega arith) (omega arith) (omega arith) (omega arith) in
    omega (arith, ideal_words_nine c.args.n)

pub overflow_add-result-2 : goal.overflow_add-result-2
overflow_add-result-2 c =
    let whole =
    words_from_both c.args.n c.degree-children.result c.args.shortest
    c.args.parts.first c.args.parts.second
    (omega arith) (omega arith) (omega arith) (omega arith) (omega arith) (omega arith) in
    omega (arith, ideal_words_nine c.args.n)

pub returns-clause-value : goal.returns-clause-value
returns-clause-value c = words_from_both c.args.n c.degree-children.result c.args.shortest
    c.args.parts.first c.args.parts.second
    (omega arith) (omega arith) (omega arith) (omega arith) (omega arith) (omega arith)

pub returns-clause-most : goal.returns-clause-most
returns-clause-most c =
    let whole =
    words_from_both c.args.n c.degree-children.result c.args.shortest
    c.args.parts.first c.args.parts.second
    (omega arith) (omega arith) (omega arith) (omega arith) (omega arith) (omega arith) in
    omega (arith, ideal_words_nine c.args.n)
