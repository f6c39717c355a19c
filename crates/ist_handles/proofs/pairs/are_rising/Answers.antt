-- The keys so far rise, and a key that doesn't rise shows that not all do.
use Rattle.std.proofs.Common.{◌-◌, arith}
use Rattle.plain_map.proofs.RisingLemmas.{key_at-rises, rises_by_steps}
use Rattle.ist_handles.proofs.RisingLemmas.{rising_given}
use Rattle.ist_handles.proofs.pairs.are_rising.Goals as goal

pub returns-then-pairs-at-clause-exact : goal.returns-then-pairs-at-clause-exact
returns-then-pairs-at-clause-exact c rising =
    let below = key_at-rises c.args.pairs.now rising (c.loop-at.at - 1) c.loop-at.at (omega arith) (omega arith) in
    absurd (omega (arith, below, c.if-pairs-at.true))

pub returns-clause-rising : goal.returns-clause-rising
returns-clause-rising c is = let end = c.loop-at-test.false in
    rises_by_steps c.args.pairs.now (λ k within. c.loop-at.invariant k (omega (arith, within)))

pub returns-clause-given : goal.returns-clause-given
returns-clause-given c is = rising_given _ (returns-clause-rising c is)
