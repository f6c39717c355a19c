use Rattle.ist_build.proofs.FilledLemmas.{leaf_number}
use Rattle.ist_build.proofs.RootFewLemmas.{leaf_good}
use Rattle.ist_build.proofs.FewLemmas.{leaf_there}
use Rattle.ist_build.proofs.calls.leaf_and_loads.Goals as goal

-- the leaf that was read is the one with this number
pub returns-clause-leaf : goal.returns-clause-leaf
returns-clause-leaf c = λ leaves has. leaf_number leaves c.args.i c.leaf_base-reached.result.base
    (c.leaf_base-reached.ensures.leaf leaves has)

-- and is published
pub returns-clause-good : goal.returns-clause-good
returns-clause-good c = leaf_good _ c.know-2.ensures.sound c.leaf_base-reached.result.base
    (leaf_there _ _ c.know.ensures.sound c.leaf_base-reached.ensures.seen c.args.target c.args.i _
    c.requires.finished c.leaf_base-reached.ensures.leaf)
