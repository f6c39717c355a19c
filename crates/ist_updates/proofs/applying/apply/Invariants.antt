use Rattle.std.proofs.Common.{◌≡◌, ◌+◌, ◌-◌, ◌≤◌}
use Rattle.laws_stability.specs.Progress.{most_progress, progress}
use Rattle.ist_updates.specs.Asking.{command_for}
use Rattle.ist_updates.specs.Walking.{IsAskedAgain}
use Rattle.ist_updates.proofs.applying.apply.Given as goal

-- each walk so far took no effect, and was paid for by progress
abbrev pub invariant-turns : goal.invariant-turns
invariant-turns l = (l.who.number ≡ l.initial.who.number)
    × IsAskedAgain l.initial.who l.who (command_for l.update.key l.update.value)
    × (l.who.token.view.searches + progress l.initial.who.token.view.log
    ≤ l.initial.who.token.view.searches + progress l.who.token.view.log)

-- and saw the table come further
abbrev pub decreases-turns : goal.decreases-turns
decreases-turns l = most_progress - progress l.who.token.view.log
