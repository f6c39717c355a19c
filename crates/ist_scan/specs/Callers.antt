-- The results of callers that take a shot, and read it later or by another pass.
use Rattle.std.specs.Prelude.{◌≡◌, ℕ, ◌≤◌, List, [], ◌∷◌, ◌++◌, length}
use Rattle.ist_core.specs.declared.calls.Call.{Call}
use Rattle.ist_core.specs.declared.commands.Command.TheVariants.{Remove}
use Rattle.ist_core.specs.declared.pairs.Pair.{Pair}
use Rattle.ist_core.specs.Changes.{changes_of}
use Rattle.ist_core.specs.Logs.{Log}
use Rattle.ist_core.specs.Map.{listed}
use Rattle.ist_tree.specs.Faces.{PassFace, changes_seen}
use Rattle.ist_tree.specs.RealTime.{StepsIn}
use Rattle.ist_scan.specs.declared.totals.Total.{Total}
use Rattle.ist_scan.specs.Shots.{map_seen}
use Rattle.ist_scan.specs.Totals.{total_of}

-- the total is the map's at one position, not before what the pass had seen at a step of this call; and
-- the pass made one more call, a remove of the key, at that position or after it
pub record IsTotalBefore (p q : PassFace) (first last key : ℕ) (total : Total) : Type 0 where
  pub at : Log
  pub step : StepsIn p q at
  pub position : ℕ
  pub fresh : length (changes_of p.tree.start p.tree.words at) ≤ position
  pub total_is : total ≡ total_of (listed first last (map_seen q position))
  pub call : Call
  pub command_is : call.command ≡ Remove key
  pub calls_are : q.calls ≡ p.calls ++ call ∷ []
  pub following : position ≤ call.position

-- the pairs are the map's from the first key to the last, at one position that isn't before what
-- the pass had seen at a step of this call
pub record IsListOnce (p q : PassFace) (first last : ℕ) (pairs : List Pair) : Type 0 where
  pub at : Log
  pub step : StepsIn p q at
  pub position : ℕ
  pub fresh : length (changes_of p.tree.start p.tree.words at) ≤ position
  pub within : position ≤ length (changes_seen q)
  pub pairs_are : pairs ≡ listed first last (map_seen q position)
