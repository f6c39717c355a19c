use Rattle.ist_rows.specs.RowTerms.{HasTakenFew}
use Rattle.ist_build.specs.Back.{IsFilling}
use Rattle.ist_build.specs.Left.{left_for}
use Rattle.ist_build.proofs.filling.fill_unset.Given as goal

-- the slots so far are set, and few words were taken
abbrev pub invariant-loop-i : goal.invariant-loop-i
invariant-loop-i l = IsFilling l.fn.who l.shared l.i l.who
    × HasTakenFew (left_for l.fn.who l.shared) (left_for l.who l.shared) l.fn.who l.who
