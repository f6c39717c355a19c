use Rattle.ist_reopen.proofs.ReopenLemmas.{history_linear, moments_told}
use Rattle.ist_reopen.proofs.laws.histories_are_linearizable.Goals as goal

pub returns : goal.returns
returns c = record { linearizable = history_linear; calls = moments_told }
