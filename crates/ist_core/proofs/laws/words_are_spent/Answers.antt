use Rattle.ist_core.proofs.HoldingLemmas as spending
use Rattle.ist_core.proofs.laws.words_are_spent.Goals as goal

pub returns : goal.returns
returns c = record { next = spending.words_are_spent }
