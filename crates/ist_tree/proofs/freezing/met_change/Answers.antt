use Rattle.ist_tree.proofs.EventLemmas.{help_plain}
use Rattle.ist_tree.proofs.FreezeGoingLemmas.{plain_idle}
use Rattle.ist_tree.proofs.freezing.met_change.Goals as goal

pub returns-clause-idle : goal.returns-clause-idle
returns-clause-idle c =
    plain_idle _ (help_plain c.args.change) c.args.who.now c.help.new.token c.requires.ready.0
    c.help.ensures.went
