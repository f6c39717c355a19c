-- The search for a fair reading of the sizes of held rows, which goes one size at a time.
use Rattle.std.specs.Prelude.{◌≡◌, ◌↔◌, ◌⊎◌, ◌==◌, ◌&&◌, not, ℕ, Bool, true, false, nat_lt, IsTrue, List, [], ◌∷◌}
use Rattle.ist_core.specs.Elements.{Among, Each, Distinct}
use Rattle.ist_core.specs.RowLayout.{leaf_words, rebuild_words, pair_words, change_words}
use Rattle.ist_core.specs.Snapshots.{Snapshot}
use Rattle.ist_core.specs.Fairness.{IsBuilding}
use Rattle.check_fairness.specs.declared.spares.Spare.{Spare}

-- a row of this size may still be held in addition to the builds
abbrev pub IsSpare : Spare → ℕ → Type 0
IsSpare may size =
    ((size ≡ leaf_words) × IsTrue may.leaf) ⊎ (((size ≡ rebuild_words) × IsTrue may.rebuild)
    ⊎ (((size ≡ pair_words) × IsTrue may.pair) ⊎ ((size ≡ change_words) × IsTrue may.change)))

-- what may still be held in addition to the builds after a row of this size
abbrev pub without_spare : Spare → ℕ → Spare
without_spare may size =
    record {
      leaf = may.leaf && not (size == leaf_words);
      rebuild = may.rebuild && not (size == rebuild_words);
      pair = may.pair && not (size == pair_words);
      change = may.change && not (size == change_words);
    }

-- at first one row of each kind may be held in addition to the builds
abbrev pub all_spare : Spare
all_spare = record { leaf = true; rebuild = true; pair = true; change = true }

-- these are sizes of rows that may still be held in addition to the builds
abbrev pub AreSpare : Spare → List ℕ → Type 0
AreSpare may sizes = Each (IsSpare may) sizes × Distinct sizes

-- what is left of a building list continues with a size for which there is no room
abbrev pub is_full : ℕ → List ℕ → Bool
is_full room [] = false
is_full room (next ∷ rest) = nat_lt room next

-- the sizes can be read as the rest of the building list that was begun, followed by further lists,
-- with spare rows among them; `free` says that another building list may be begun here
pub data Goes (P : List ℕ → Type 0) (room : ℕ) : Spare → List ℕ → Bool → List ℕ → Type 0 where
  all_read : {may : Spare} {rest : List ℕ} {free : Bool} → Goes P room may rest free []
  leaves_out : {may : Spare} {rest sizes : List ℕ} {free : Bool} (size : ℕ) → IsSpare may size
      → Goes P room (without_spare may size) rest free sizes
      → Goes P room may rest free (size ∷ sizes)
  goes_on : {may : Spare} {rest sizes : List ℕ} {free : Bool} (size : ℕ)
      → Goes P room may rest (is_full room rest) sizes
      → Goes P room may (size ∷ rest) free (size ∷ sizes)
  begins : {may : Spare} {old sizes : List ℕ} (size : ℕ) (rest : List ℕ) → P (size ∷ rest)
      → Goes P room may rest (is_full room rest) sizes
      → Goes P room may old true (size ∷ sizes)

-- the first size continues this list
pub record TakesNext (P : List ℕ → Type 0) (room : ℕ) (may : Spare) (list : List ℕ) (size : ℕ) (sizes : List ℕ) : Type 0 where
  pub rest : List ℕ
  pub list_is : list ≡ size ∷ rest
  pub goes : Goes P room may rest (is_full room rest) sizes

-- the first size begins a list
pub record BeginsOne (P : List ℕ → Type 0) (room : ℕ) (may : Spare) (size : ℕ) (sizes : List ℕ) : Type 0 where
  pub rest : List ℕ
  pub building : P (size ∷ rest)
  pub goes : Goes P room may rest (is_full room rest) sizes

-- the first size is a spare row's
abbrev pub LeavesOut : (List ℕ → Type 0) → ℕ → Spare → List ℕ → Bool → ℕ → List ℕ → Type 0
LeavesOut P room may rest free size sizes =
    IsSpare may size × Goes P room (without_spare may size) rest free sizes

-- these are the building lists of the state
abbrev pub AreBuilding : Snapshot → List (List ℕ) → Type 0
AreBuilding t lists = (sizes : List ℕ) → IsBuilding t sizes ↔ Among sizes lists
