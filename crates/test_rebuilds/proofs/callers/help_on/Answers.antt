use Rattle.ist_rebuild.specs.Going.{ServesRebuild}
use Rattle.ist_rebuild.proofs.EventLemmas.{started_went}
use Rattle.test_rebuilds.proofs.callers.help_on.Goals as goal

pub returns-clause-started : goal.returns-clause-started
returns-clause-started c =
    started_went ServesRebuild _ _ c.help_rebuild.ensures.helped.on.gone.went c.args.rebuild
    c.requires.started
