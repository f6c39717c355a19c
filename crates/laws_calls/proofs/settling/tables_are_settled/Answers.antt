use Rattle.laws_calls.proofs.SettledLemmas.{settled}
use Rattle.laws_calls.proofs.settling.tables_are_settled.Goals as goal

pub returns : goal.returns
returns c = record { settled = λ pairs words log l. settled pairs words l.opens log l.enabled }
