use Rattle.std.proofs.Common.{refl, subst, sym}
use Rattle.ist_core.specs.declared.commands.Command.TheVariants.{Put}
use Rattle.ist_tree.specs.CallTerms.{ReturnsInTime, HasUpdated}
use Rattle.ist_tree.proofs.trees.Tree.put.Goals as goal

-- an update that should take effect at any value did
pub returns-in-Ok-clause-updated : goal.returns-in-Ok-clause-updated
returns-in-Ok-clause-updated c =
    subst (HasUpdated c.args.pass.now c.apply_in_call.new.pass (Put c.args.key c.args.value)) (sym c.reply.ensures.value)
    (c.in-Ok.ensures.always refl)

pub returns-in-Ok-clause-timed : goal.returns-in-Ok-clause-timed
returns-in-Ok-clause-timed c =
    subst (ReturnsInTime c.args.pass.now c.apply_in_call.new.pass (Put c.args.key c.args.value))
    (sym c.reply.ensures.value) (c.in-Ok.ensures.always refl).timed
