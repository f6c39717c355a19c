use Rattle.std.proofs.Common.{List, take}
use Rattle.ist_core.specs.declared.lists.HeldRow.{HeldRow}
use Rattle.ist_core.specs.LogTerms.{without}
use Rattle.check_events.specs.Holding.{TableHolds}
use Rattle.check_events.proofs.held.let_go.Given as goal

-- the rows at the bases so far are gone
abbrev pub invariant-loop-base : goal.invariant-loop-base
invariant-loop-base l = (held : List HeldRow) → TableHolds l.fn.table held
    → TableHolds l.table (without (take l.base-index l.bases) held)
