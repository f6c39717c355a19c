use Rattle.std.proofs.Common.{arith}
use Rattle.ist_core.proofs.AllWordLemmas.{degree_is}
use Rattle.ist_math.proofs.shares.degree.Goals as goal

-- the degree is the larger of 2 and the root
pub returns-clause-value : goal.returns-clause-value
returns-clause-value c =
    let known =
    degree_is c.args.n c.root.result c.root.ensures.square c.root.ensures.next_square in
    omega arith
