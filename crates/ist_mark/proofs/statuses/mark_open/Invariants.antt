use Rattle.ist_mark.specs.MarkEvents.{marking}
use Rattle.ist_mark.proofs.statuses.mark_open.Given as goal

-- the event is the Mark of the node whose status lies there
abbrev pub ghost-exchange : goal.ghost-exchange
ghost-exchange a = marking a.token.now.view a.place
