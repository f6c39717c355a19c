-- Which events a call makes: what each kind of step is also a step of. Serves `rebuild_due` and
-- `update`.
use Rattle.std.proofs.Common.{◌≡◌, ◌≢◌, ℕ, inl, inr, arith}
use Rattle.ist_core.specs.declared.events.Event.{Event}
use Rattle.ist_core.specs.declared.events.Event.TheVariants.{Count, Decide, Enter, Install, Okay, Resolve}
use Rattle.ist_core.specs.TreeTerms.{IsUpdate}
use Rattle.ist_core.specs.WordTerms.{start_kind, finish_kind}
use Rattle.ist_dcss.specs.Helping as dcss
use Rattle.ist_rows.specs.RowTerms.{KeepsRows, InstallsNone}
use Rattle.laws_calls.specs.Settling.{InstallsNoStart, CountsNothing}
use Rattle.ist_rebuild.specs.Going.{Begins, ServesRebuild, StartsAt}
use Rattle.ist_updates.specs.Asking.{Updates}
use Rattle.ist_tree.specs.CallTerms.{Rebuilds, Works}

-- ---- steps of rebuilding

-- a start is no put or remove
start_no_update : (kind : ℕ) → kind ≡ start_kind → ¬ (IsUpdate kind)
start_no_update kind is (inl e) = omega arith
start_no_update kind is (inr e) = omega arith

-- a finish is no put or remove
finish_no_update : (kind : ℕ) → kind ≡ finish_kind → ¬ (IsUpdate kind)
finish_no_update kind is (inl e) = omega arith
finish_no_update kind is (inr e) = omega arith

-- a finish is no start
finish_no_start : (kind : ℕ) → kind ≡ finish_kind → kind ≢ start_kind
finish_no_start kind is e = omega arith

-- a step of starting is one of rebuilding
pub begins_rebuild : (event : Event) → Begins event → Rebuilds event
begins_rebuild (Install caller base rows) p = λ change is. start_no_update change.kind (p change is)
begins_rebuild (Enter caller) p = p
begins_rebuild (Count caller node) p = p
begins_rebuild _ p = tt

-- a step of helping a rebuild is one of rebuilding
pub serves_rebuild : (event : Event) → ServesRebuild event → Rebuilds event
serves_rebuild (Install caller base rows) p = grind (arith, finish_no_update)
serves_rebuild (Enter caller) p = p
serves_rebuild (Count caller node) p = p
serves_rebuild _ p = tt

-- the event is a step of rebuilding that installs nothing and leaves the caller's rows
pub record IsPlainHelp (event : Event) : Type 0 where
  pub rebuilds : Rebuilds event
  pub keeps : KeepsRows event
  pub installs : InstallsNone event

-- each event of helping a change is a plain one
pub help_plain : (base : ℕ) (event : Event) → dcss.Serves base event → IsPlainHelp event
help_plain base (Okay caller other) p = record { rebuilds = tt; keeps = tt; installs = tt }
help_plain base (Decide caller other said) p = record { rebuilds = tt; keeps = tt; installs = tt }
help_plain base (Resolve caller other) p = record { rebuilds = tt; keeps = tt; installs = tt }
help_plain base _ p = absurd p

-- ---- steps that start or count nothing

-- what installs nothing starts nothing
pub none_starts_none : (number : ℕ) (event : Event) → InstallsNone event
    → InstallsNoStart number event
none_starts_none number (Install caller base rows) p = absurd p
none_starts_none number _ p = tt

-- helping a rebuild starts none, so that no start is out of place
pub serves_aims : (target : ℕ) (event : Event) → ServesRebuild event → StartsAt target event
serves_aims target (Install caller base rows) p = grind (arith, finish_no_start)
serves_aims target _ p = tt

-- helping a change starts none, so that no start is out of place
pub help_aims : (target base : ℕ) (event : Event) → dcss.Serves base event → StartsAt target event
help_aims target base (Okay caller other) p = tt
help_aims target base (Decide caller other said) p = tt
help_aims target base (Resolve caller other) p = tt
help_aims target base _ p = absurd p

-- helping a rebuild starts none
pub serves_start_none : (number : ℕ) (event : Event) → ServesRebuild event → InstallsNoStart number event
serves_start_none number (Install caller base rows) p = grind (arith, finish_no_start)
serves_start_none number _ p = tt

-- an update starts no rebuild
pub updates_start_none : (number : ℕ) (event : Event) → Updates event → InstallsNoStart number event
updates_start_none number (Install caller base rows) p = λ mine change is. p change is
updates_start_none number _ p = tt

-- rebuilding counts nothing
pub rebuilds_count_none : (number : ℕ) (event : Event) → Rebuilds event → CountsNothing number event
rebuilds_count_none number (Count caller node) p other counts = p
rebuilds_count_none number _ p other counts = counts

-- ---- steps of a call

-- rebuilding is a step of a call
pub rebuilds_work : (event : Event) → Rebuilds event → Works event
rebuilds_work (Enter caller) p = p
rebuilds_work _ p = tt

-- a step of an update is a step of a call
pub updates_work : (event : Event) → Updates event → Works event
updates_work (Enter caller) p = p
updates_work _ p = tt
