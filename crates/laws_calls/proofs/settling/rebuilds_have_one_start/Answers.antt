use Rattle.laws_calls.proofs.ReadLemmas.{read_started}
use Rattle.laws_calls.proofs.SettledLemmas.{has_start, starts_are_one}
use Rattle.laws_calls.proofs.settling.rebuilds_have_one_start.Goals as goal

pub returns : goal.returns
returns c = record {
  some = λ pairs words log l. has_start pairs words log l.enabled;
  one = λ pairs words log l. starts_are_one pairs words l.opens log l.enabled;
  told = λ pairs words log l. read_started pairs words l.opens log l.enabled;
}
