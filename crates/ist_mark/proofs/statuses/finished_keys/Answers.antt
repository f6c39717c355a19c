use Rattle.std.proofs.Common.{arith}
use Rattle.ist_rule.proofs.EventLemmas.{looked_goes_on}
use Rattle.ist_mark.proofs.MarkLemmas.{finished_told}
use Rattle.ist_mark.proofs.statuses.finished_keys.Goals as goal

pub returns-clause-seen : goal.returns-clause-seen
returns-clause-seen c = looked_goes_on _ _ _ _ c.own_word-status.ensures.looked

-- what is known after the load
pub returns-clause-finished : goal.returns-clause-finished
returns-clause-finished c k is = let told = c.keys_of.ensures.finished k is in
    (finished_told _ c.know.ensures.sound c.args.node c.requires.may_mark.0 _ _ k _ (omega arith)
    c.own_word-status.ensures.looked told).finished k told
