use Rattle.std.proofs.Common.{rules}
use Rattle.ist_tree.proofs.FreezeCallLemmas.{begun_ready}
use Rattle.ist_tree.proofs.TokenLemmas.{new_pass}
use Rattle.test_rebuilds.proofs.callers.enter_call.Goals as goal

pub returns-clause-ready : goal.returns-clause-ready
returns-clause-ready c = (
  begun_ready c.enter-who.result c.begin_call.new.token c.know.ensures.sound
      (new_pass c.enter-who.result c.enter-who.ensures.caller.0 c.enter-who.ensures.holds_none
      c.enter-who.ensures.in_none) c.enter-who.result.token.view.searches c.begin_call.ensures.begun,
  search rules,
)
