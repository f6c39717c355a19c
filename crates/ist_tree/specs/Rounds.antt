-- What a pass did without effect, and which value a key had meanwhile.
use Rattle.std.specs.Prelude.{◌≡◌, ℕ, ◌+◌, ◌*◌, ◌≤◌, length, Option}
use Rattle.laws_histories.specs.Searching.{HasPosition}
use Rattle.ist_updates.specs.declared.updates.When.{When}
use Rattle.ist_updates.specs.Meeting.{IsMissedBy}
use Rattle.ist_tree.specs.Calls.{HasSeenMore}
use Rattle.laws_stability.specs.Progress.{progress}
use Rattle.ist_tree.specs.DueRows.{CameDue, CountsNowhere, StartsOnlyDue}
use Rattle.ist_tree.specs.Faces.{PassFace, changes_seen}
use Rattle.ist_tree.specs.Freezing.{HasStartedNone}

-- the pass met no refused rebuild, counted nowhere, so that no row reached its limit by its counts,
-- and started no rebuild
pub record HasNoEffect (p q : PassFace) : Type 0 where
  pub seen : HasSeenMore p q
  pub refused : q.refused ≡ p.refused
  pub none_came : (row : ℕ) → ¬ (CameDue p q row)
  pub uncounted : CountsNowhere p q
  pub starts : StartsOnlyDue p q
  pub unstarted : HasStartedNone p q

-- what the pass did had no effect, and added no call to it
pub record HasLetGo (p q : PassFace) : Type 0 where
  pub idle : HasNoEffect p q
  pub calls : q.calls ≡ p.calls
  pub stamp : q.stamp ≡ p.stamp

-- the key had this value at a position between what the pass had seen before and what it has seen
-- since
abbrev pub HadValue : PassFace → PassFace → ℕ → Option ℕ → Type 0
HadValue p q key value = HasPosition p.tree.start p.tree.words p.seen q.seen key value

-- at such a position the key had a value at which the update isn't meant to take effect
pub record HadMissed (p q : PassFace) (key : ℕ) (when : When) : Type 0 where
  pub had : Option ℕ
  pub missed : IsMissedBy when had
  pub position : HadValue p q key had

-- ---- how many walks

-- for the walks that the pass began it saw the table come further: one step of progress for each,
-- or one change of the map for two
abbrev pub PaysForWalks : PassFace → PassFace → Type 0
PaysForWalks p q =
    q.searches + (progress p.seen + 2 * length (changes_seen p))
    ≤ p.searches + (progress q.seen + 2 * length (changes_seen q))

-- the pass began two walks, and at most one more for each step of progress that it saw the table
-- make and two more for each change of the map that it saw
abbrev pub BeginsFewRounds : PassFace → PassFace → Type 0
BeginsFewRounds p q =
    q.searches + (progress p.seen + 2 * length (changes_seen p))
    ≤ p.searches + 2 + (progress q.seen + 2 * length (changes_seen q))
