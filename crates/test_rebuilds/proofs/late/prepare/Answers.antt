use Rattle.std.proofs.Common.{rules}
use Rattle.ist_rule.proofs.WentOnLemmas.{goes_on_went}
use Rattle.ist_updates.proofs.WayLemmas.{NoEvent, asked_searched, asked_went}
use Rattle.test_rebuilds.proofs.late.prepare.Goals as goal

-- the walk and the look at the leaf are loads
pub fill_for-requires-clause-asked : goal.fill_for-requires-clause-asked
fill_for-requires-clause-asked c = (
  asked_went _ c.has_leaf.new.token _
      (asked_searched c.ask.new.who c.walk.new.token _ c.ask.ensures.asked
      c.in-Some.ensures.walked.went)
      (goes_on_went NoEvent _ _ c.has_leaf.ensures.seen),
  search rules,
)

pub fill_for-requires-clause-room : goal.fill_for-requires-clause-room
fill_for-requires-clause-room c = c.has_leaf.ensures.room c.if-not-has_leaf.false
