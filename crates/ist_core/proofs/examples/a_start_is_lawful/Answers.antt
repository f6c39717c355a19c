use Rattle.std.proofs.Common.{refl}
use Rattle.ist_core.specs.WordTerms.{ref_of}
use Rattle.ist_core.proofs.StartExampleLemmas.{start_is_lawful}
use Rattle.ist_core.proofs.examples.a_start_is_lawful.Goals as goal

pub returns-clause-lawful : goal.returns-clause-lawful
returns-clause-lawful c = start_is_lawful

pub returns-clause-rebuild : goal.returns-clause-rebuild
unfolding ref_of
returns-clause-rebuild c = refl
