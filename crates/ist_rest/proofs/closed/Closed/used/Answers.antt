use Rattle.std.proofs.Common.{arith}
use Rattle.ist_rest.proofs.WholeLemmas.{stand_hold, used_spent}
use Rattle.ist_rest.proofs.closed.Closed.used.Goals as goal

-- standing words have the fixed words
pub word-requires : goal.word-requires
word-requires c = let bounds = (stand_hold c.args.self.now c.know.ensures.stands).1.bounds in
    let least = bounds.least in record { within = omega arith }

-- the first free word is what was spent
pub returns-clause-spent : goal.returns-clause-spent
returns-clause-spent c = used_spent c.args.self.now c.word.result c.word.ensures.value
