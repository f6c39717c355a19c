use Rattle.std.proofs.Common.{arith}
use Rattle.ist_core.proofs.AllWordLemmas.{degree_is}
use Rattle.check_fairness.proofs.shares.degree_of.Goals as goal

-- the degree is the larger of 2 and the root
pub returns-clause-value : goal.returns-clause-value
returns-clause-value c =
    let known = degree_is c.args.n c.isqrt.result c.isqrt.ensures.square_le
    c.isqrt.ensures.next_square_gt in
    omega arith
