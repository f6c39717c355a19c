use Rattle.ist_core.proofs.AllWordLemmas.{start_at, longer_at, shorter_at}
use Rattle.ist_math.proofs.shares.part.Goals as goal

pub returns-then-j-left_over-clause-start : goal.returns-then-j-left_over-clause-start
returns-then-j-left_over-clause-start c =
    start_at c.args.n c.args.j c.degree-children.result c.min.result
    c.degree-children.ensures.value c.min.ensures

pub returns-then-j-left_over-clause-len : goal.returns-then-j-left_over-clause-len
returns-then-j-left_over-clause-len c =
    longer_at c.args.n c.args.j c.degree-children.result c.degree-children.ensures.value
    c.if-j-left_over.true

pub returns-else-j-left_over-clause-start : goal.returns-else-j-left_over-clause-start
returns-else-j-left_over-clause-start c =
    start_at c.args.n c.args.j c.degree-children.result c.min.result
    c.degree-children.ensures.value c.min.ensures

pub returns-else-j-left_over-clause-len : goal.returns-else-j-left_over-clause-len
returns-else-j-left_over-clause-len c =
    shorter_at c.args.n c.args.j c.degree-children.result c.degree-children.ensures.value
    c.if-j-left_over.false
