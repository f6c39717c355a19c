use Rattle.laws_calls.proofs.UpLemmas.{row_sized}
use Rattle.laws_calls.proofs.rows.rows_are_sized.Goals as goal

pub returns : goal.returns
returns c = record { sized = λ pairs words log l. row_sized pairs words l.opens log l.enabled }
