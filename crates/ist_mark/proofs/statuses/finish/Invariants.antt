use Rattle.ist_mark.specs.MarkEvents.{finishing}
use Rattle.ist_mark.proofs.statuses.finish.Given as goal

-- the event is the Finish of the node whose status lies there, with the number of the new word
abbrev pub ghost-exchange : goal.ghost-exchange
ghost-exchange a = finishing a.token.now.view a.place a.new
