-- What one slot of a marked node adds to its number of keys.
use Rattle.std.specs.Prelude.{ℕ}
use Rattle.ist_core.specs.References.{ref_of}
use Rattle.ist_core.specs.Snapshots.{Snapshot}
use Rattle.ist_core.specs.Logs.{Log, Happened, Passes}
use Rattle.ist_core.specs.Rebuilding.{IsFinishedWith}
use Rattle.ist_core.specs.Marking.{HasTarget, CountsFor}

-- the slot was passed with a word that counts for k keys
pub record PassCounts (t : Snapshot) (log : Log) (node i k : ℕ) : Type 0 where
  pub word : ℕ
  pub passed : Happened (Passes node i word) log
  pub counts : CountsFor t (ref_of word) k

-- the target of the rebuild is finished with k keys
pub record TargetFinishedWith (t : Snapshot) (rebuild k : ℕ) : Type 0 where
  pub target : ℕ
  pub of : HasTarget t rebuild target
  pub finished : IsFinishedWith t target k
