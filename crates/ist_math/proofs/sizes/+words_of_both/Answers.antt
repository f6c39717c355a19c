use Rattle.std.proofs.Common.{◌+◌, ◌∙◌, ap, sym, arith}
use Rattle.ist_core.specs.WordTerms.{ideal_words}
use Rattle.ist_core.proofs.AllWordLemmas.{ideal_words_none, ideal_words_one, ideal_words_two}
use Rattle.ist_math.proofs.SizeLemmas.{shortest_fits}
use Rattle.ist_math.proofs.sizes.+words_of_both.Goals as goal

pub returns-then-n-eq0-clause-first : goal.returns-then-n-eq0-clause-first
returns-then-n-eq0-clause-first t c = sym (ap ideal_words c.if-n-eq0.true ∙ ideal_words_none)

pub returns-then-n-eq0-clause-second : goal.returns-then-n-eq0-clause-second
returns-then-n-eq0-clause-second t c =
    sym (ap (λ k. ideal_words (k + 1)) c.if-n-eq0.true ∙ ideal_words_one)

pub returns-then-n-eq1-clause-first : goal.returns-then-n-eq1-clause-first
returns-then-n-eq1-clause-first t c = sym (ap ideal_words c.if-n-eq1.true ∙ ideal_words_one)

pub returns-then-n-eq1-clause-second : goal.returns-then-n-eq1-clause-second
returns-then-n-eq1-clause-second t c =
    sym (ap (λ k. ideal_words (k + 1)) c.if-n-eq1.true ∙ ideal_words_two)

-- the shortest part of both trees is at most one key shorter than each part
pub words_of_node-requires-clause-near : goal.words_of_node-requires-clause-near
words_of_node-requires-clause-near t c =
    (shortest_fits c.args.n c.degree.result c.degree-2.result c.min-shortest.result (omega arith)
    c.degree.ensures.value c.degree-2.ensures.value c.min-shortest.ensures).near

pub words_of_node-requires-clause-enough : goal.words_of_node-requires-clause-enough
words_of_node-requires-clause-enough t c =
    (shortest_fits c.args.n c.degree.result c.degree-2.result c.min-shortest.result (omega arith)
    c.degree.ensures.value c.degree-2.ensures.value c.min-shortest.ensures).enough

pub words_of_node-requires-2-clause-near : goal.words_of_node-requires-2-clause-near
words_of_node-requires-2-clause-near t c =
    (shortest_fits c.args.n c.degree.result c.degree-2.result c.min-shortest.result (omega arith)
    c.degree.ensures.value c.degree-2.ensures.value c.min-shortest.ensures).near_next

pub words_of_node-requires-2-clause-enough : goal.words_of_node-requires-2-clause-enough
words_of_node-requires-2-clause-enough t c =
    (shortest_fits c.args.n c.degree.result c.degree-2.result c.min-shortest.result (omega arith)
    c.degree.ensures.value c.degree-2.ensures.value c.min-shortest.ensures).enough_next
