use Rattle.ist_dcss.specs.HelpEvents.{deciding}
use Rattle.ist_dcss.proofs.helping.decide.Given as goal

-- the event is the Decide of the change at this base
abbrev pub ghost-exchange : goal.ghost-exchange
ghost-exchange a = deciding a.token.now.view a.place a.new
