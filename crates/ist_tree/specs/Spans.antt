-- What a pass reads of a range of keys at once.
use Rattle.std.specs.Prelude.{◌≡◌, ℕ, ◌+◌, ◌*◌, ◌≤◌, List, length, Option}
use Rattle.std.specs.List.{sum_by}
use Rattle.ist_core.specs.declared.pairs.Pair.{Pair}
use Rattle.ist_core.specs.Snapshots.{Snapshot}
use Rattle.ist_core.specs.Lawful.{state_of}
use Rattle.ist_core.specs.Logs.{Log}
use Rattle.laws_histories.specs.Searching.{HasPosition, Searched}
use Rattle.laws_calls.specs.Walking.{IsChainOf}
use Rattle.ist_find.specs.Spans.{pair_value}
use Rattle.ist_tree.specs.Calls.{row_loads}
use Rattle.ist_tree.specs.Faces.{PassFace}
use Rattle.ist_tree.specs.RealTime.{StepsIn}

-- the state of the tree after all that the pass has seen
abbrev pub state_seen : PassFace → Snapshot
state_seen p = state_of p.tree.start p.tree.words p.seen

-- each key of the range had the value that the pair gives it, or none, at some position of its own
-- since a step of the pass in this call
pub record AllHave (p q : PassFace) (first last : ℕ) (pair : Option Pair) : Type 0 where
  pub at : Log
  pub step : StepsIn p q at
  pub values : (k : ℕ) → first ≤ k → k ≤ last
      → HasPosition p.tree.start p.tree.words at q.seen k (pair_value pair k)

-- the pass made one search for the key, which began after what it had seen before and ended at a
-- slot of this node with this value. It made few loads: 10 at most, and for each row on the node's
-- chain 3 more than that row costs a search for the key
pub record HasLoadedFewOver (p q : PassFace) (key : ℕ) (value : Option ℕ) : Type 0 where
  pub once : q.searches ≡ p.searches + 1
  pub began : ℕ
  pub since : length p.seen ≤ began
  pub node : ℕ
  pub searched : Searched q.tree.start q.tree.words q.seen key began node value
  pub rows : List ℕ
  pub chain : IsChainOf q.tree.start q.tree.words q.seen node rows
  pub few : q.loaded ≤ p.loaded + 10 + sum_by (row_loads (state_seen q) key) rows + 3 * length rows
