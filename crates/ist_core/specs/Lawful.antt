-- Lawful logs: what may happen to a table. All laws are about them.
use Rattle.std.specs.Prelude.{ℕ, ◌+◌, ◌≤◌, List, [], ◌∷◌, length, map}
use Rattle.std.specs.List.Sorted.{IsStrictlyIncreasing}
use Rattle.ist_core.specs.declared.pairs.Pair.{Pair}
use Rattle.ist_core.specs.RowLayout.{place_limit, first_row}
use Rattle.ist_core.specs.Shapes.{ideal_words}
use Rattle.ist_core.specs.Snapshots.{Snapshot}
use Rattle.ist_core.specs.StartLayout.{start}
use Rattle.ist_core.specs.Logs.{Log, state}
use Rattle.ist_core.specs.Enabled.{Enabled}

-- each event of the log was enabled after the events that precede it
abbrev pub EachEnabled : Snapshot → Log → Type 0
EachEnabled first [] = Unit {0}
EachEnabled first (event ∷ log) = EachEnabled first log × Enabled first log event

-- a table of `words` words may begin with these pairs: their keys are strictly increasing, and
-- their tree fits
pub record CanOpen (pairs : List Pair) (words : ℕ) : Type 0 where
  pub rising : IsStrictlyIncreasing (map (λ pair. pair.key) pairs)
  pub room : first_row + ideal_words (length pairs) ≤ words
  pub within : words ≤ place_limit

-- the log is lawful from the start layout of these pairs in a table of `words` words
pub record Lawful (pairs : List Pair) (words : ℕ) (log : Log) : Type 0 where
  pub opens : CanOpen pairs words
  pub enabled : EachEnabled (start pairs words) log

-- the state after a log that begins at the start layout
abbrev pub state_of : List Pair → ℕ → Log → Snapshot
state_of pairs words log = state (start pairs words) log
