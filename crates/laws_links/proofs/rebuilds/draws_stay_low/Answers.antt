use Rattle.laws_links.proofs.ResolvedLemmas.{draw_low}
use Rattle.laws_links.proofs.rebuilds.draws_stay_low.Goals as goal

pub returns : goal.returns
returns c = record { low = λ pairs words log l. draw_low pairs words l.opens log l.enabled }
