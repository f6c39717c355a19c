-- Each try that found another number got the counter.
use Rattle.std.proofs.Common.{rules}
use Rattle.try_example.proofs.RaiseLemmas.{got_none, got_more, got_still, on_err}
use Rattle.try_example.proofs.counting.raise.Goals as goal

-- the first find
pub loop-init : goal.loop-init
loop-init c = got_more _ _ _ _ _ (got_none _ _) c.find-counter.ensures.seen c.find-counter.ensures.added

-- a try that found another number
pub loop-preserved : goal.loop-preserved
loop-preserved c = got_more _ _ _ _ _ c.loop.invariant c.put_if.ensures.run.seen
    (c.in_ok-had.ensures.answered.got (search rules))

-- a try that was refused made no call
pub returns-in_err-had-clause-full : goal.returns-in_err-had-clause-full
returns-in_err-had-clause-full c = on_err _ _
    (got_still _ _ _ _ c.loop.invariant c.put_if.ensures.run.seen c.in_err-had.ensures.turned_away.calls)
