use Rattle.std.specs.Prelude.{◌/◌}
use Rattle.ist_core.specs.WordTerms.{tag_count}
use Rattle.ist_dcss.specs.HelpEvents.{resolving}
use Rattle.ist_dcss.proofs.helping.resolve.Given as goal

-- the event is the Resolve of the change whose word is expected
abbrev pub ghost-exchange : goal.ghost-exchange
ghost-exchange a = resolving a.token.now.view (a.old / tag_count)
