-- The last words are the words of a table whose maker took all passes back.
use Rattle.std.proofs.Common.{◌≡◌, subst, sym, length}
use Rattle.ist_tree.specs.CallTerms.{MakerFace, ClosesWith, ClosesInTime}
use Rattle.ist_tree.proofs.RealTimeLemmas.{closes_with}
use Rattle.ist_tree.proofs.trees.Tree.close.Goals as goal

pub new-requires-clause-stands : goal.new-requires-clause-stands
new-requires-clause-stands c =
    let back = subst (λ (m : MakerFace). length m.taken ≡ m.made) (sym c.maker.view_is)
    c.requires.all_back in
    let it = closes_with c.maker.inside.token _ c.maker.inside.refused c.maker.invariant.with back c.close.ensures.words in
    (_, _, it.stands)

pub returns-clause-stands : goal.returns-clause-stands
returns-clause-stands c =
    let back = subst (λ (m : MakerFace). length m.taken ≡ m.made) (sym c.maker.view_is)
    c.requires.all_back in
    subst (λ (m : MakerFace). ClosesWith m c.new.result) c.maker.view_is
    (subst (ClosesWith _) (sym c.new.ensures.value)
    (closes_with c.maker.inside.token _ c.maker.inside.refused c.maker.invariant.with back c.close.ensures.words))

-- All calls on its table are linearizable.
pub returns-clause-linearizable : goal.returns-clause-linearizable
returns-clause-linearizable c =
    let back = subst (λ (m : MakerFace). length m.taken ≡ m.made) (sym c.maker.view_is)
    c.requires.all_back in
    subst (λ (m : MakerFace). ClosesInTime m.tree.start m.made m.moments m.taken) c.maker.view_is
    (closes_with c.maker.inside.token _ c.maker.inside.refused c.maker.invariant.with back c.close.ensures.words).timed
