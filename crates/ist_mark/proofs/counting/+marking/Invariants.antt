use Rattle.std.proofs.Common.{◌+◌, ◌*◌, ◌-◌, ◌^◌}
use Rattle.ist_rule.specs.RuleTerms.{now}
use Rattle.ist_mark.specs.Passing.{HasMarked, AreCounted}
use Rattle.ist_mark.proofs.counting.+marking.Given as goal

-- bases rise on the way down
abbrev pub decreases-count_slot : goal.decreases-count_slot
decreases-count_slot l = 2 * (2 ^ 32 - l.node)

abbrev pub decreases-mark_and_count : goal.decreases-mark_and_count
decreases-mark_and_count l = 2 * (2 ^ 32 - l.node) + 1

-- the slots so far were passed, and count for the keys so far
abbrev pub invariant-mark_and_count-loop-index : goal.invariant-mark_and_count-loop-index
invariant-mark_and_count-loop-index l = HasMarked l.node l.initial.token l.token
    × AreCounted (now l.token.view) l.token.view.log l.node l.index l.keys
