use Rattle.std.proofs.Common.{rules}
use Rattle.test_rebuilds.proofs.ReadyLemmas.{marked_loads}
use Rattle.ist_rebuild.proofs.EventLemmas.{loads_helped}
use Rattle.ist_rows.proofs.GoneLemmas.{still_ready}
use Rattle.test_rebuilds.proofs.leaves.leaf_base.Goals as goal

pub returns-clause-ready : goal.returns-clause-ready
returns-clause-ready c = (
  still_ready (loads_helped c.args.who.now c.leaf_at-leaf.new.token c.requires.ready.0
      c.leaf_at-leaf.ensures.seen).on,
  search rules,
)

pub returns-clause-marked : goal.returns-clause-marked
returns-clause-marked c =
    marked_loads _ _ c.leaf_at-leaf.ensures.seen c.args.rebuild _ _ c.requires.marked
