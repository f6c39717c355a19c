use Rattle.std.proofs.Common.{refl, sym}
use Rattle.ist_build.proofs.ShareLemmas.{read_whole, enough_leaves}
use Rattle.ist_build.proofs.descent.leaf_base.Goals as goal

pub returns-clause-leaf : goal.returns-clause-leaf
returns-clause-leaf c = λ leaves has.
    sym (read_whole _ _ _ _ leaves refl
    (enough_leaves _ c.know.ensures.sound c.args.target _ c.requires.finished.0 leaves has)
    (c.go_down.ensures.read leaves has))
