use Rattle.std.proofs.Common.{subst}
use Rattle.ist_updates.specs.Changing.{MayReplace}
use Rattle.ist_updates.proofs.changing.plan_for.Goals as goal

-- what the word names leaves room
pub plan_leaf-requires-clause-room : goal.plan_leaf-requires-clause-room
plan_leaf-requires-clause-room c =
    subst (MayReplace c.args.who.now.token.view c.args.aim.key c.args.aim.word) c.in-Leaf.is
    c.requires.room
