use Rattle.ist_map.proofs.RunLemmas.{run_is_one}
use Rattle.ist_map.proofs.laws.runs_are_one_history.Goals as goal

pub returns : goal.returns
returns c = record { one = run_is_one }
