use Rattle.std.specs.Prelude.{◌/◌}
use Rattle.ist_core.specs.WordTerms.{tag_count}
use Rattle.ist_dcss.specs.HelpEvents.{installing}
use Rattle.ist_dcss.proofs.installing.install.Given as goal

-- it aims with the same filling
abbrev pub ghost-aim_of : goal.ghost-aim_of
ghost-aim_of g a = g.filling

-- the event is the Install of the change whose word is written
abbrev pub ghost-exchange : goal.ghost-exchange
ghost-exchange g a = installing a.token.now.view g.filling (a.new / tag_count)
