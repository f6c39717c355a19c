-- What stays the same while a table comes no further. `src/progress.rt` names the laws.
use Rattle.std.specs.Prelude.{List, Some, ℕ, ◌≤◌, ◌≡◌, ◌≢◌}
use Rattle.ist_core.specs.declared.pairs.Pair.{Pair}
use Rattle.ist_core.specs.Lawful.{Lawful, state_of}
use Rattle.ist_core.specs.Links.{Linked}
use Rattle.ist_core.specs.Logs.{GoesOn, Log}
use Rattle.ist_core.specs.References.{InnerAt, ref_of, unset_word}
use Rattle.ist_core.specs.Slots.{IsOpen, SlotHolds}
use Rattle.laws_stability.specs.Progress.{progress}

-- a slot that is set holds its word
abbrev pub SlotsStand : Type 0
SlotsStand =
    (pairs : List Pair) (words : ℕ) (earlier log : Log) → Lawful pairs words log
    → GoesOn earlier log → progress log ≤ progress earlier → (node i word : ℕ) → word ≢ unset_word
    → SlotHolds (state_of pairs words earlier) node i word
    → SlotHolds (state_of pairs words log) node i word

-- a node that is open stays so
abbrev pub OpenNodesStand : Type 0
OpenNodesStand =
    (pairs : List Pair) (words : ℕ) (earlier log : Log) → Lawful pairs words log
    → GoesOn earlier log → progress log ≤ progress earlier → (node : ℕ)
    → IsOpen (state_of pairs words earlier) node → IsOpen (state_of pairs words log) node

-- a row named by a slot of a linked open node is open: a row that isn't open is below one that isn't, or is read
-- through a rebuild
abbrev pub OpenNodesHaveOpenChildren : Type 0
OpenNodesHaveOpenChildren =
    (pairs : List Pair) (words : ℕ) (log : Log) → Lawful pairs words log → (node i word child : ℕ)
    → Linked (state_of pairs words log) node → IsOpen (state_of pairs words log) node
    → SlotHolds (state_of pairs words log) node i word → ref_of word ≡ Some (InnerAt child)
    → IsOpen (state_of pairs words log) child
