-- A new pass is a caller that was entered now.
use Rattle.std.proofs.Common.{◌+◌, subst, arith}
use Rattle.ist_core.specs.LogTerms.{GoesOn}
use Rattle.ist_tree.specs.CallTerms.{MakerFace}
use Rattle.ist_tree.proofs.TokenLemmas.{new_pass_with, entered_goes_on, entered_counted}
use Rattle.ist_tree.proofs.trees.Tree.pass.Goals as goal

pub invariant_of-result : goal.invariant_of-result
invariant_of-result c = new_pass_with c.enter-caller.result c.enter-caller.ensures.caller.0
    c.enter-caller.ensures.holds_none c.enter-caller.ensures.in_none c.know.ensures.sound
    c.enter-caller.ensures.idle

pub invariant_of-maker : goal.invariant_of-maker
invariant_of-maker c =
    entered_counted c.maker.inside.token.view _ c.enter-caller.new.maker.view c.maker.inside.refused
    c.enter-caller.ensures.entered c.enter-caller.ensures.made.0 c.enter-caller.ensures.made.1
    c.enter-caller.ensures.given c.maker.inside.made c.maker.inside.taken_back c.maker.invariant
    (c.from.result + 1) (omega (arith, c.from.ensures, c.enter-caller.ensures.number))

pub returns-clause-maker_seen : goal.returns-clause-maker_seen
returns-clause-maker_seen c =
    subst (λ (m : MakerFace). GoesOn m.seen c.enter-caller.new.maker.view.log) c.maker.view_is
    (entered_goes_on _ _ _ c.enter-caller.ensures.entered)
