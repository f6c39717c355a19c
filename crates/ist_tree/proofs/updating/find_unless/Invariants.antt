use Rattle.ist_tree.proofs.PositionLemmas.{found_call}
use Rattle.ist_tree.proofs.updating.find_unless.Given as goal

-- the call ends at the first position at which the map replies so
abbrev pub ghost-end_call : goal.ghost-end_call
ghost-end_call a = found_call a.token.now.view a.reply
