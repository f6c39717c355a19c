-- A maker took back at most what it made.
use Rattle.std.proofs.Common.{◌≤◌, length, subst}
use Rattle.ist_core.specs.LogTerms.{caller_limit}
use Rattle.ist_tree.specs.CallTerms.{MakerFace}
use Rattle.ist_tree.proofs.FewChangesLemmas.{taken_few}
use Rattle.ist_tree.proofs.passes.Maker.know.Goals as goal

pub returns-clause-back : goal.returns-clause-back
returns-clause-back c = subst (λ (m : MakerFace). length m.taken ≤ m.made) c.self.view_is
    (taken_few c.self.inside.token.view c.know.ensures.sound c.self.invariant.with.maker).0

pub returns-clause-few : goal.returns-clause-few
returns-clause-few c = subst (λ (m : MakerFace). m.made ≤ caller_limit) c.self.view_is
    (taken_few c.self.inside.token.view c.know.ensures.sound c.self.invariant.with.maker).1
