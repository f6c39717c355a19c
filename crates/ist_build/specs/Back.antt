-- A caller before and after it puts builds in place, and what it made for that.
use Rattle.std.specs.Prelude.{◌≡◌, ℕ, ◌+◌, ◌<◌, ◌≤◌, List, [], take, drop, Some}
use Rattle.ist_core.specs.Arithmetic.{degree, part_len, part_start}
use Rattle.ist_core.specs.Leaves.{PlacedLeaf, HasLeaves}
use Rattle.ist_core.specs.Marking.{HasTarget}
use Rattle.ist_core.specs.References.{InnerAt}
use Rattle.ist_core.specs.RowLayout.{slot_place, rebuild_root_offset}
use Rattle.ist_core.specs.Shapes.{shape}
use Rattle.ist_core.specs.Snapshots.{Snapshot}
use Rattle.ist_rule.specs.Rule.{IsSound}
use Rattle.ist_rule.specs.Learning.{now}
use Rattle.ist_rows.specs.declared.callers.Caller.{Caller}
use Rattle.ist_rows.specs.Rows.{IsCaller, spares_of}
use Rattle.ist_rows.specs.Building.{IsInBuild, HasRefused, sizes_built}
use Rattle.laws_coming.specs.Builds.{WasUnset}
use Rattle.ist_build.specs.declared.shared.SharedRoot.{SharedRoot}
use Rattle.ist_build.specs.Calls.{IsTold}
use Rattle.ist_build.specs.Laying.{BuiltOn, IsLaid, IsRootLaid}
use Rattle.ist_build.specs.Putting.{PutOn, HasRoot, IsShared, IsSlotSet}

-- ---- the caller

-- the caller may build: each build of which it holds rows was refused
pub record IsFreeToBuild (who : Caller) : Type 0 where
  pub caller : IsCaller who
  pub refused : HasRefused who

-- the caller may build again: since its earlier state it has put on, and it has the same other rows
pub record IsBack (old new : Caller) : Type 0 where
  pub ready : IsFreeToBuild new
  pub number : new.number ≡ old.number
  pub rows : spares_of new ≡ spares_of old
  pub put : PutOn old.token.view new.token.view

-- a caller that might build has only built since then, and it has the same other rows
pub record HasBuilt (old new : Caller) : Type 0 where
  pub ready : IsFreeToBuild old
  pub sound : IsSound old.token.view
  pub number : new.number ≡ old.number
  pub rows : spares_of new ≡ spares_of old
  pub built : BuiltOn old.token.view new.token.view

-- ---- a root

-- the word is a root of the rebuild, which had none, and was built since the earlier state
pub record IsRootMade (old new : Caller) (rebuild word : ℕ) : Type 0 where
  pub has_built : HasBuilt old new
  pub target : ℕ
  pub keys : ℕ
  pub told : IsTold (now old.token.view) rebuild keys
  pub target_is : HasTarget (now old.token.view) rebuild target
  pub several : 2 ≤ keys
  pub laid : (leaves : List PlacedLeaf)
      → HasLeaves (now old.token.view).pieces (Some (InnerAt target)) leaves
      → IsRootLaid old new target keys word leaves
  pub unset : WasUnset old.token.view old.number (rebuild + rebuild_root_offset)

-- it was built since some earlier state
pub record RootWasMade (new : Caller) (rebuild word : ℕ) : Type 0 where
  pub old : Caller
  pub made : IsRootMade old new rebuild word

-- the caller is back, and the rebuild has this root
pub record HasPutRoot (old new : Caller) (rebuild word : ℕ) : Type 0 where
  pub back : IsBack old new
  pub root : HasRoot (now new.token.view) rebuild word

-- whenever the word was built, the caller is back, and the rebuild has the root `found`
abbrev pub EndsRoot : Caller → ℕ → ℕ → Caller → ℕ → Type 0
EndsRoot mid rebuild word new found =
    (old : Caller) → IsRootMade old mid rebuild word → HasPutRoot old new rebuild found

-- ---- parts of a shared root

-- the root is shared, and has this many slots
pub record IsSharedAs (t : Snapshot) (s : SharedRoot) : Type 0 where
  pub is : IsShared t s.rebuild s.target s.root s.keys
  pub degree_is : s.degree ≡ degree s.keys

-- the word is part i of the shared root, for a slot that was Unset, and was built since the earlier
-- state
pub record IsPartMade (old new : Caller) (s : SharedRoot) (i word : ℕ) : Type 0 where
  pub has_built : HasBuilt old new
  pub shared : IsSharedAs (now old.token.view) s
  pub within : i < s.degree
  pub laid : (all : List PlacedLeaf)
      → HasLeaves (now old.token.view).pieces (Some (InnerAt s.target)) all
      → IsLaid new.token.view new.number (now old.token.view).next word
      (take (part_len s.keys i) (drop (part_start s.keys i) all))
  pub at : IsInBuild new (sizes_built old) (shape (part_len s.keys i)) []
  pub unset : WasUnset old.token.view old.number (slot_place s.root s.degree i)

-- it was built since some earlier state
pub record PartWasMade (new : Caller) (s : SharedRoot) (i word : ℕ) : Type 0 where
  pub old : Caller
  pub made : IsPartMade old new s i word

-- the caller is back, and the slot is set
pub record IsFilledAt (old new : Caller) (root i : ℕ) : Type 0 where
  pub back : IsBack old new
  pub set : IsSlotSet (now new.token.view) root i

-- whenever the word was built, the caller is back, and the slot is set
abbrev pub EndsPart : Caller → SharedRoot → ℕ → ℕ → Caller → Type 0
EndsPart mid s i word new =
    (old : Caller) → IsPartMade old mid s i word → IsFilledAt old new s.root i

-- the caller is filling the slots of a shared root: the first i are set
pub record IsFilling (old : Caller) (s : SharedRoot) (i : ℕ) (who : Caller) : Type 0 where
  pub back : IsBack old who
  pub shared : IsSharedAs (now who.token.view) s
  pub filled : (j : ℕ) → j < i → IsSlotSet (now who.token.view) s.root j
