-- The law over lawful logs on rows that aren't linked any more. `src/rebuilds.rt` names it.
use Rattle.std.specs.Prelude.{List, ℕ}
use Rattle.ist_core.specs.declared.pairs.Pair.{Pair}
use Rattle.ist_core.specs.Lawful.{Lawful, state_of}
use Rattle.ist_core.specs.Links.{Linked, WasLinked}
use Rattle.ist_core.specs.Logs.{GoesOn, Log}
use Rattle.ist_core.specs.StartLayout.{start}

-- a row that was linked and isn't any more is never linked again
abbrev pub UnlinkedRowsStayOut : Type 0
UnlinkedRowsStayOut =
    (pairs : List Pair) (words : ℕ) (earlier log : Log) → Lawful pairs words log
    → GoesOn earlier log
    → (node : ℕ) → WasLinked (start pairs words) earlier node
    → ¬ (Linked (state_of pairs words earlier) node)
    → ¬ (Linked (state_of pairs words log) node)
