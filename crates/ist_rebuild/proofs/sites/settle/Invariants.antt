use Rattle.std.proofs.Common.{◌≡◌, ◌-◌}
use Rattle.laws_stability.specs.Progress.{most_progress, progress}
use Rattle.ist_rows.specs.RowTerms.{TakesNoWords}
use Rattle.ist_rebuild.specs.Helping.{HasHelped}
use Rattle.ist_rebuild.proofs.sites.settle.Given as goal

-- each turn only made steps of help, and took no word
abbrev pub invariant-turns : goal.invariant-turns
invariant-turns l = HasHelped l.fn.who l.who × TakesNoWords l.fn.who l.who
    × (l.who.change ≡ l.fn.who.change)

-- each turn but the last resolved a change
abbrev pub decreases-turns : goal.decreases-turns
decreases-turns l = most_progress - progress l.who.token.view.log
