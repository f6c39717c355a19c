use Rattle.ist_reopen.proofs.GenerationLemmas.{history_legal, history_leads}
use Rattle.ist_reopen.proofs.laws.histories_are_one.Goals as goal

pub returns : goal.returns
returns c = record { legal = history_legal; leads = history_leads }
