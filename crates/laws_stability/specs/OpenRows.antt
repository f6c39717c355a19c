-- Where to find an open row that a slot once held. `src/progress.rt` names the law.
use Rattle.std.specs.Prelude.{List, Some, ℕ, ◌≡◌}
use Rattle.ist_core.specs.declared.pairs.Pair.{Pair}
use Rattle.ist_core.specs.Lawful.{Lawful, state_of}
use Rattle.ist_core.specs.Links.{WasLinked}
use Rattle.ist_core.specs.Logs.{GoesOn, Log}
use Rattle.ist_core.specs.Marking.{HasTarget}
use Rattle.ist_core.specs.References.{ChangeAt, InnerAt, RebuildAt, ref_of}
use Rattle.ist_core.specs.Slots.{IsOpen, SlotHolds}
use Rattle.ist_core.specs.Snapshots.{Snapshot}
use Rattle.ist_core.specs.StartLayout.{start}

-- the word is the row's own, or a change's, or the word of a rebuild of the row
pub data StandsAtRow (t : Snapshot) (word row : ℕ) : Type 0 where
  its_own : ref_of word ≡ Some (InnerAt row) → StandsAtRow t word row
  by_change : (change : ℕ) → ref_of word ≡ Some (ChangeAt change) → StandsAtRow t word row
  by_rebuild : (rebuild : ℕ) → ref_of word ≡ Some (RebuildAt rebuild) → HasTarget t rebuild row
      → StandsAtRow t word row

-- a row that was linked and is open is found in this way in the slot that once held it
abbrev pub OpenRowsStand : Type 0
OpenRowsStand =
    (pairs : List Pair) (words : ℕ) (earlier log : Log) → Lawful pairs words log
    → GoesOn earlier log → (node i row old word : ℕ)
    → SlotHolds (state_of pairs words earlier) node i old → ref_of old ≡ Some (InnerAt row)
    → WasLinked (start pairs words) log row → IsOpen (state_of pairs words log) row
    → SlotHolds (state_of pairs words log) node i word → StandsAtRow (state_of pairs words log) word row
