use Rattle.ist_core.proofs.LateExampleLemmas.{late_is_lawful, late_changes, late_contents}
use Rattle.ist_core.proofs.examples.an_overtaken_put_is_lawful.Goals as goal

pub returns-clause-lawful : goal.returns-clause-lawful
returns-clause-lawful c = late_is_lawful

pub returns-clause-changes : goal.returns-clause-changes
returns-clause-changes c = late_changes

pub returns-clause-contents : goal.returns-clause-contents
returns-clause-contents c = late_contents
