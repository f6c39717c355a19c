use Rattle.ist_tree.proofs.FreezeCallLemmas.{begun_ready}
use Rattle.ist_tree.proofs.freezing.begin.Goals as goal

-- all changes of the caller are resolved
pub returns-clause-ready : goal.returns-clause-ready
returns-clause-ready c =
    begun_ready c.args.who.now c.begin_call.new.token c.know.ensures.sound c.requires.pass.0
    c.args.who.now.token.view.searches c.begin_call.ensures.begun
