use Rattle.std.proofs.Common.{◌+◌, ◌-◌, ◌≤◌}
use Rattle.laws_stability.specs.Progress.{most_progress, progress}
use Rattle.ist_tree.specs.CallTerms.{GoesIdle, counted_as}
use Rattle.ist_tree.proofs.freezing.look_below.Given as goal

-- each look went on by rebuilding, left starts done, started no rebuild, and was paid for by progress
abbrev pub invariant-turns : goal.invariant-turns
invariant-turns l = GoesIdle (counted_as l.initial.who l.who.token.view.searches) l.who
    × (l.who.token.view.searches + progress l.initial.who.token.view.log
    ≤ l.initial.who.token.view.searches + progress l.who.token.view.log)

-- and saw the table come further, if it met nothing
abbrev pub decreases-turns : goal.decreases-turns
decreases-turns l = most_progress - progress l.who.token.view.log
