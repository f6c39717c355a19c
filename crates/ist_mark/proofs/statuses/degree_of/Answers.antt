use Rattle.std.proofs.Common.{arith}
use Rattle.ist_rule.proofs.EventLemmas.{looked_goes_on}
use Rattle.ist_mark.proofs.MarkLemmas.{degree_tells}
use Rattle.ist_mark.proofs.statuses.degree_of.Goals as goal

pub returns-clause-seen : goal.returns-clause-seen
returns-clause-seen c = looked_goes_on _ _ _ _ c.own_word.ensures.looked

-- the word is the degree
pub returns-clause-degree : goal.returns-clause-degree
returns-clause-degree c =
    degree_tells _ _ _ _ c.own_word.ensures.looked c.args.node c.requires.may_mark.0 c.requires.closed
    (omega arith)
