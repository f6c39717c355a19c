use Rattle.ist_rule.proofs.EventLemmas.{goes_on_more}
use Rattle.ist_tree.proofs.FewFreezeLemmas.{number_seen, numbered_pair}
use Rattle.ist_tree.proofs.freezing.pair_and_loads.Goals as goal

-- the leaf is published
pub leaf_pair-pair-requires-clause-leaf : goal.leaf_pair-pair-requires-clause-leaf
leaf_pair-pair-requires-clause-leaf c =
    number_seen _ _ _ c.args.i _ c.frozen_leaf-leaf.ensures.leaf c.frozen_leaf-leaf.ensures.seen

pub returns-clause-seen : goal.returns-clause-seen
returns-clause-seen c =
    goes_on_more _ _ _ c.frozen_leaf-leaf.ensures.seen c.leaf_pair-pair.ensures.seen

-- its pair is the one with the number
pub returns-clause-pair : goal.returns-clause-pair
returns-clause-pair c =
    numbered_pair _ _ c.know.ensures.sound c.args.frozen c.args.i _ _ c.requires.frozen
    c.frozen_leaf-leaf.ensures.leaf c.frozen_leaf-leaf.ensures.seen c.leaf_pair-pair.ensures.pair
