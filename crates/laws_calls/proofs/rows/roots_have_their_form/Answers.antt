use Rattle.laws_calls.proofs.RootFormLemmas.{root_has_form}
use Rattle.laws_calls.proofs.rows.roots_have_their_form.Goals as goal

pub returns : goal.returns
returns c = record { form = λ pairs words log l. root_has_form pairs words l.opens log l.enabled }
