-- The last refusal is one of the pass still.
use Rattle.ist_tree.proofs.PortLemmas.{port_more}
use Rattle.ist_tree.proofs.ports.TreePortPort.call.Goals as goal

pub invariant_of-self : goal.invariant_of-self
invariant_of-self g c =
    port_more c.self.inside.tree.now c.self.inside.pass c.answer.new.pass _ c.answer.ensures.seen
    c.self.invariant
