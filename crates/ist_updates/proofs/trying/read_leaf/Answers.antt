use Rattle.ist_updates.proofs.AfterLemmas.{leaf_read}
use Rattle.ist_updates.proofs.trying.read_leaf.Goals as goal

pub returns-clause-published : goal.returns-clause-published
returns-clause-published c =
    leaf_read _ _ c.args.base _ c.leaf_pair-pair.ensures.seen c.leaf_pair-pair.ensures.pair
