-- Attempts to rebuild a row that reached its limit, as the functions inside this crate make them.
use Rattle.std.specs.Prelude.{◌≡◌, ℕ, Bool, false, Result, Ok, IfOk, IfErr, OnOk}
use Rattle.ist_core.specs.declared.ports.Full.{Full}
use Rattle.ist_core.specs.Snapshots.{Snapshot}
use Rattle.ist_rule.specs.Going.{WentOn}
use Rattle.ist_rule.specs.Learning.{now}
use Rattle.ist_rows.specs.declared.callers.Caller.{Caller}
use Rattle.ist_rows.specs.Going.{StaysReady}
use Rattle.laws_coming.specs.Further.{CameFurther}
use Rattle.ist_rebuild.specs.Going.{StartsAt}
use Rattle.ist_rebuild.specs.Starting.{StartsDoneBut, StartsDoneSince}
use Rattle.ist_updates.specs.declared.updates.Due.{Due}
use Rattle.ist_tree.specs.Working.{IsDueRefused, IsHelpedWord, IsLastFor, IsShut, KeepsDone, Rebuilds}

-- the caller went on by steps of rebuilding, and started rebuilds of the target only
pub record GoesFor (old new : Caller) (target : ℕ) : Type 0 where
  pub on : StaysReady Rebuilds old new
  pub aims : WentOn (StartsAt target) old.token.view new.token.view

-- the caller helped the rebuild of the row that it had started, or was refused
pub record HelpsOwn (old new : Caller) (due : Due) (words rebuild : ℕ)
    (helped : Result (Unit {0}) Full) : Type 0 where
  pub on : GoesFor old new due.target
  pub shut : OnOk helped (IsShut (now new.token.view) due.parent due.target)
  pub done : OnOk helped ((first : Snapshot)
      → StartsDoneBut first (now old.token.view) old.number rebuild
      → StartsDoneSince first (now new.token.view) old.number)
  pub full : IfErr helped (IsDueRefused (now old.token.view) new.token.view due words)

-- the caller helped what the word names, which was in the slot instead of the row, or was refused
pub record HelpsOther (old new : Caller) (due : Due) (words word : ℕ)
    (helped : Result (Unit {0}) Full) : Type 0 where
  pub on : GoesFor old new due.target
  pub done : OnOk helped (KeepsDone old new)
  pub settled : OnOk helped (IsHelpedWord new.token.view word)
  pub full : IfErr helped (IsDueRefused (now old.token.view) new.token.view due words)

-- the caller tried once to rebuild the row: if it says that this was the last attempt, the row or
-- its parent isn't open, and otherwise the table came further
pub record TriesOnce (old new : Caller) (due : Due) (words : ℕ) (tried : Result Bool Full)
    : Type 0 where
  pub on : GoesFor old new due.target
  pub last : IfOk tried (λ last. IsLastFor last (now new.token.view) due.parent due.target)
  pub further : tried ≡ Ok false → CameFurther old.token.view new.token.view
  pub done : OnOk tried (KeepsDone old new)
  pub full : IfErr tried (IsDueRefused (now old.token.view) new.token.view due words)

-- the caller tried until the row or its parent wasn't open, or was refused
pub record RebuildsRow (old new : Caller) (due : Due) (words : ℕ) (tried : Result (Unit {0}) Full)
    : Type 0 where
  pub on : GoesFor old new due.target
  pub shut : OnOk tried (IsShut (now new.token.view) due.parent due.target)
  pub done : OnOk tried (KeepsDone old new)
  pub full : IfErr tried (IsDueRefused (now old.token.view) new.token.view due words)
