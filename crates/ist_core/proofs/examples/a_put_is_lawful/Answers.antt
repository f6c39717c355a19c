use Rattle.ist_core.proofs.PutExampleLemmas.{put_is_lawful}
use Rattle.ist_core.proofs.examples.a_put_is_lawful.Goals as goal

pub returns-clause-lawful : goal.returns-clause-lawful
returns-clause-lawful c = put_is_lawful
