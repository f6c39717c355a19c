use Rattle.ist_core.specs.WordTerms.{inner_words}
use Rattle.ist_rows.specs.RowTerms.{HasTakenFew}
use Rattle.ist_build.specs.Midway.{IsTopMidway}
use Rattle.ist_build.proofs.top.build_top.Given as goal

-- the slots so far are Unset, and their keys are stored; only the words of the row were taken
abbrev pub invariant-loop-j : goal.invariant-loop-j
invariant-loop-j l = IsTopMidway l.fn.who l.target l.keys l.base l.degree l.j l.who
    × HasTakenFew (inner_words l.degree) 0 l.fn.who l.who
