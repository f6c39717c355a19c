-- A note is split from its pass.
use Rattle.ist_tree.proofs.TokenLemmas.{new_note}
use Rattle.ist_tree.proofs.trees.Tree.note.Goals as goal

pub invariant_of-result : goal.invariant_of-result
invariant_of-result c = new_note c.pass.inside.caller _ c.know.ensures.sound c.pass.invariant.pass
    c.split-token.ensures.new
