use Rattle.std.proofs.Common.{rules}
use Rattle.ist_rule.proofs.EventLemmas.{goes_on_more}
use Rattle.ist_build.proofs.FewLemmas.{leaf_there, key_told_at}
use Rattle.ist_build.proofs.top.key_at.Goals as goal

pub key_of-requires : goal.key_of-requires
key_of-requires c =
    let it = leaf_there _ _ c.know.ensures.sound c.leaf_base-leaf.ensures.seen c.args.target c.args.i _
    c.requires.finished.0 c.leaf_base-leaf.ensures.leaf in
    search rules

pub returns-clause-seen : goal.returns-clause-seen
returns-clause-seen c = goes_on_more _ _ _ c.leaf_base-leaf.ensures.seen c.key_of.ensures.seen

pub returns-clause-key : goal.returns-clause-key
returns-clause-key c = key_told_at _ _ c.leaf_base-leaf.ensures.seen c.args.target c.args.i _ _
    c.leaf_base-leaf.ensures.leaf c.key_of.ensures.key
