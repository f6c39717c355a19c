use Rattle.ist_tree.proofs.EndingLemmas.{ended_call}
use Rattle.ist_tree.proofs.updating.apply_in_call.Given as goal

-- the call ends at its entry, or at the first position with its reply
abbrev pub ghost-end_call : goal.ghost-end_call
ghost-end_call a = ended_call a.token.now.view a.reply
