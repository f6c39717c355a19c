use Rattle.ist_reopen.proofs.PassLemmas.{made_over}
use Rattle.ist_reopen.proofs.laws.histories_are_made_of_calls.Goals as goal

pub returns : goal.returns
returns c = record { made = made_over }
