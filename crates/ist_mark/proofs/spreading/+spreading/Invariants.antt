use Rattle.std.proofs.Common.{◌+◌, ◌*◌, ◌-◌, ◌^◌}
use Rattle.ist_mark.specs.Passing.{HasMarked}
use Rattle.ist_mark.proofs.spreading.+spreading.Given as goal

-- bases rise on the way down
abbrev pub decreases-mark_slot : goal.decreases-mark_slot
decreases-mark_slot l = 3 * (2 ^ 32 - l.node)

abbrev pub decreases-mark_ahead : goal.decreases-mark_ahead
decreases-mark_ahead l = 3 * (2 ^ 32 - l.node) + 1

abbrev pub decreases-mark_and_count_from : goal.decreases-mark_and_count_from
decreases-mark_and_count_from l = 3 * (2 ^ 32 - l.node) + 2

-- each step so far was one of marking
abbrev pub invariant-mark_ahead-loop-k : goal.invariant-mark_ahead-loop-k
invariant-mark_ahead-loop-k l = HasMarked l.node l.initial.token l.token
