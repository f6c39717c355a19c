use Rattle.ist_core.proofs.FinishExampleLemmas.{rebuild_is_lawful, rebuild_contents}
use Rattle.ist_core.proofs.examples.a_rebuild_is_lawful.Goals as goal

pub returns-clause-lawful : goal.returns-clause-lawful
returns-clause-lawful c = rebuild_is_lawful

pub returns-clause-contents : goal.returns-clause-contents
returns-clause-contents c = rebuild_contents
