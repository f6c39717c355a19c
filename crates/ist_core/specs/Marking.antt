-- When a node may be marked, when a slot of it may be passed, and when it may be finished.
use Rattle.std.specs.Prelude.{◌≡◌, ℕ, ◌+◌, ◌<◌, ◌≢◌, List, [], ◌∷◌, slice_get, Option, Some}
use Rattle.ist_core.specs.declared.states.InnerRow.{InnerRow}
use Rattle.ist_core.specs.declared.states.RebuildRow.{RebuildRow}
use Rattle.ist_core.specs.References.{Ref, Empty, LeafAt, InnerAt, ChangeAt, RebuildAt, ref_of, unset_word}
use Rattle.ist_core.specs.Statuses.{open_word, marked_word}
use Rattle.ist_core.specs.Pieces.{Inner, Rebuild}
use Rattle.ist_core.specs.Snapshots.{Snapshot}
use Rattle.ist_core.specs.Logs.{Log, Happened, Passes}
use Rattle.ist_core.specs.Rebuilding.{IsStarted, IsFinishedWith}

-- there is a rebuild with this target at the base
pub record HasTarget (t : Snapshot) (rebuild target : ℕ) : Type 0 where
  pub row : RebuildRow
  pub published : t.pieces rebuild ≡ Some (Rebuild row)
  pub target_is : row.target ≡ target

-- there is a reason to mark the node: it is the target of a started rebuild, or a slot of a marked
-- row was passed with its word or with the word of a rebuild of it
pub data IsCalled (t : Snapshot) (log : Log) (node : ℕ) : Type 0 where
  as_target : (rebuild : ℕ) → HasTarget t rebuild node → IsStarted t rebuild → IsCalled t log node
  as_child : (above i word : ℕ) → Happened (Passes above i word) log
      → ref_of word ≡ Some (InnerAt node)
      → IsCalled t log node
  after_rebuild : (above i word rebuild : ℕ) → Happened (Passes above i word) log
      → ref_of word ≡ Some (RebuildAt rebuild)
      → HasTarget t rebuild node → IsCalled t log node

-- an open row may be marked if there is a reason
pub record CanMark (t : Snapshot) (log : Log) (caller node : ℕ) : Type 0 where
  pub known : caller < t.callers
  pub row : InnerRow
  pub published : t.pieces node ≡ Some (Inner row)
  pub row_open : row.status ≡ open_word
  pub called : IsCalled t log node

-- a slot of a marked row may be passed with the word that it holds, if that is neither a change nor
-- Unset
pub record CanPass (t : Snapshot) (caller node i word : ℕ) : Type 0 where
  pub known : caller < t.callers
  pub row : InnerRow
  pub published : t.pieces node ≡ Some (Inner row)
  pub marked : row.status ≡ marked_word
  pub in_slot : slice_get row.slots i ≡ Some word
  pub no_change : (change : ℕ) → ref_of word ≢ Some (ChangeAt change)
  pub set : word ≢ unset_word

-- slot i of the node is frozen with the word: a Pass of it has this word
abbrev pub IsFrozen : Log → ℕ → ℕ → ℕ → Type 0
IsFrozen log node i word = Happened (Passes node i word) log

-- ---- Finish

-- how many keys a passed word counts for: 0 for Empty, 1 for a leaf, for an inner row the number
-- that it is finished with, and for a rebuild the number of its target
pub data CountsFor (t : Snapshot) : Option Ref → ℕ → Type 0 where
  no_key : CountsFor t (Some Empty) 0
  one_key : {leaf : ℕ} → CountsFor t (Some (LeafAt leaf)) 1
  of_child : {child k : ℕ} → IsFinishedWith t child k → CountsFor t (Some (InnerAt child)) k
  of_target : {rebuild target k : ℕ} → HasTarget t rebuild target → IsFinishedWith t target k
      → CountsFor t (Some (RebuildAt rebuild)) k

-- from slot i on, each slot of the node was passed, and the passed words count for this many keys
-- in all. All passes of a slot have the same word, so one pass of each slot is enough
pub data ArePassed (t : Snapshot) (log : Log) (node : ℕ) : ℕ → List ℕ → ℕ → Type 0 where
  past_end : {i : ℕ} → ArePassed t log node i [] 0
  one_passed : {i here rest slot : ℕ} {slots : List ℕ} (word : ℕ)
      → Happened (Passes node i word) log
      → CountsFor t (ref_of word) here → ArePassed t log node (i + 1) slots rest
      → ArePassed t log node i (slot ∷ slots) (here + rest)

-- a marked row may be finished with k keys if each slot was passed and the passed words count for k
pub record CanFinish (t : Snapshot) (log : Log) (caller node k : ℕ) : Type 0 where
  pub known : caller < t.callers
  pub row : InnerRow
  pub published : t.pieces node ≡ Some (Inner row)
  pub marked : row.status ≡ marked_word
  pub passed : ArePassed t log node 0 row.slots k
