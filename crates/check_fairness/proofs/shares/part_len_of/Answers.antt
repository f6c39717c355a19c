use Rattle.ist_core.proofs.AllWordLemmas.{longer_at, shorter_at}
use Rattle.check_fairness.proofs.shares.part_len_of.Goals as goal

pub returns-then-j-n-clause-value : goal.returns-then-j-n-clause-value
returns-then-j-n-clause-value c = longer_at c.args.n c.args.j c.degree_of-children.result
    c.degree_of-children.ensures.value c.if-j-n.true

pub returns-else-j-n-clause-value : goal.returns-else-j-n-clause-value
returns-else-j-n-clause-value c = shorter_at c.args.n c.args.j c.degree_of-children.result
    c.degree_of-children.ensures.value c.if-j-n.false
