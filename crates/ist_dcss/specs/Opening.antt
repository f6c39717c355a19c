-- Nodes that are open, and what it means for a caller that one is. `src/laws.rt` lists the clauses.
use Rattle.std.specs.Prelude.{◌≡◌, ℕ, List}
use Rattle.ist_core.specs.declared.pairs.Pair.{Pair}
use Rattle.ist_core.specs.Installing.{IsUnrefused}
use Rattle.ist_core.specs.Lawful.{Lawful, state_of}
use Rattle.ist_core.specs.Logs.{Log, GoesOn}
use Rattle.ist_core.specs.Slots.{IsOpen}
use Rattle.ist_rule.specs.declared.view.View.{View}
use Rattle.ist_core.specs.declared.events.Who.TheVariants.{Caller}
use Rattle.ist_rule.specs.Conditions.{IsResolved}
use Rattle.ist_rule.specs.Going.{WentOn}
use Rattle.ist_rule.specs.Learning.{now}
use Rattle.ist_rule.specs.Rule.{IsSound}
use Rattle.ist_rule.specs.Watching.{IsNode}
use Rattle.ist_dcss.specs.Helping.{Serves, IsOut}
use Rattle.ist_dcss.specs.Installing.{Filling, IsInstalled}

-- a node that isn't open after a log isn't open after a longer one
abbrev pub ClosedNodesStay : Type 0
ClosedNodesStay =
    (pairs : List Pair) (words : ℕ) (earlier log : Log) → Lawful pairs words log
    → GoesOn earlier log → (node : ℕ) → IsNode (state_of pairs words earlier) node
    → ¬ (IsOpen (state_of pairs words earlier) node) → ¬ (IsOpen (state_of pairs words log) node)

-- if a node is open, no change on it was decided no: an Install there may come
abbrev pub OpenNodesAreUnrefused : Type 0
OpenNodesAreUnrefused =
    (v : View) → IsSound v → (node : ℕ) → IsOpen (now v) node → (number : ℕ)
    → IsUnrefused (now v) number node

-- if all changes of a caller are resolved, and one more is installed and helped until it is out,
-- all are resolved
abbrev pub HelpedChangesAreResolved : Type 0
HelpedChangesAreResolved =
    (v w x : View) (number base : ℕ) (f : Filling) → v.who ≡ Caller number → IsResolved v number
    → IsInstalled v base f w → WentOn (Serves base) w x → IsOut x base → IsResolved x number
