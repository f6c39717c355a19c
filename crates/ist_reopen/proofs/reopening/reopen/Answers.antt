use Rattle.std.proofs.Common.{◌∙◌, ap, sym}
use Rattle.ist_tree.specs.CallTerms.{TreeFace}
use Rattle.ist_reopen.proofs.ReopenLemmas.{follows}
use Rattle.ist_reopen.proofs.reopening.reopen.Goals as goal

-- the tree was opened over the words that were closed with this maker
pub returns-in-Ok-clause-follows : goal.returns-in-Ok-clause-follows
returns-in-Ok-clause-follows c =
    follows c.args.maker c.close-closed.result c.args.words c.in-Ok.made.0 c.in-Ok.made.1
    (c.close-closed.ensures.words ∙ ap (λ (t : TreeFace). t.words) (sym c.requires.same_tree))
    c.close-closed.ensures.stands c.in-Ok.ensures.new
