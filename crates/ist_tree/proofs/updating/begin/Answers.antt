use Rattle.ist_tree.proofs.UpdateKeptLemmas.{begun_asked}
use Rattle.ist_tree.proofs.updating.begin.Goals as goal

-- nothing of the call took effect yet
pub returns-clause-asked : goal.returns-clause-asked
returns-clause-asked c =
    begun_asked c.args.who.now c.begin_call.new.token c.args.command c.know.ensures.sound
    c.requires.pass.0 c.begin_call.ensures.begun
