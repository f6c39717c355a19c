use Rattle.ist_updates.proofs.DescentLemmas.{counted_on, counted_due, counted_as_before}
use Rattle.ist_updates.proofs.counting.count_update.Goals as goal

-- if the row reached its limit
pub returns-then-count_at-clause-on : goal.returns-then-count_at-clause-on
returns-then-count_at-clause-on c =
    counted_on c.args.who.now c.args.row c.requires.caller.0 c.requires.quiet c.count_at.new.token
    c.count_at.ensures.went c.requires.refused

pub returns-then-count_at-clause-counted : goal.returns-then-count_at-clause-counted
returns-then-count_at-clause-counted c earlier command rows x =
    counted_due c.args.who.now c.args.row c.requires.caller.0 c.requires.quiet c.count_at.new.token
    c.count_at.ensures.went _ c.count_at.ensures.counted earlier command rows c.args.below x
    c.if-count_at.true c.args.parent c.args.index c.requires.stood

-- and if it didn't
pub returns-clause-on : goal.returns-clause-on
returns-clause-on c =
    counted_on c.args.who.now c.args.row c.requires.caller.0 c.requires.quiet c.count_at.new.token
    c.count_at.ensures.went c.requires.refused

pub returns-clause-counted : goal.returns-clause-counted
returns-clause-counted c earlier command rows x =
    counted_as_before c.args.who.now c.args.row c.requires.caller.0 c.requires.quiet c.count_at.new.token
    c.count_at.ensures.went _ c.count_at.ensures.counted earlier command rows c.args.below x
    c.if-count_at.false
