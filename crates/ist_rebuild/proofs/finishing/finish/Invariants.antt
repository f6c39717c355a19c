use Rattle.std.proofs.Common.{◌-◌}
use Rattle.laws_stability.specs.Progress.{most_progress, progress}
use Rattle.ist_core.specs.WordTerms.{change_words}
use Rattle.ist_rows.specs.RowTerms.{HasTakenFew}
use Rattle.ist_rebuild.specs.Helping.{HasHelped}
use Rattle.ist_rebuild.specs.Needs.{wanting}
use Rattle.ist_rebuild.proofs.finishing.finish.Given as goal

-- each turn only made steps of help, and took few words
abbrev pub invariant-turns : goal.invariant-turns
invariant-turns l = HasHelped l.fn.who l.who
    × HasTakenFew (wanting l.fn.who.change change_words) (wanting l.who.change change_words) l.fn.who
    l.who

-- each turn but the last resolved a change
abbrev pub decreases-turns : goal.decreases-turns
decreases-turns l = most_progress - progress l.who.token.view.log
