-- When a change may be installed: what it may replace by what, for each kind.
use Rattle.std.specs.Prelude.{◌≡◌, ℕ, ◌<◌, ◌⊎◌, ◌≢◌, nat_lt, if◌then◌else◌, List, [], ◌∷◌, Some}
use Rattle.ist_core.specs.declared.states.LeafRow.{LeafRow}
use Rattle.ist_core.specs.declared.states.InnerRow.{InnerRow}
use Rattle.ist_core.specs.declared.states.ChangeRow.{ChangeRow}
use Rattle.ist_core.specs.declared.states.RebuildRow.{RebuildRow}
use Rattle.ist_core.specs.declared.lists.Row.{Row}
use Rattle.ist_core.specs.RowLayout.{anchor}
use Rattle.ist_core.specs.References.{Empty, LeafAt, InnerAt, RebuildAt, ref_of, word_of, unset_word}
use Rattle.ist_core.specs.Statuses.{open_word, undecided, decided_no, put_kind, remove_kind, start_kind, finish_kind}
use Rattle.ist_core.specs.Pieces.{Piece, Leaf, Inner, Change, Rebuild, row_at}
use Rattle.ist_core.specs.Snapshots.{Snapshot, HoldsRows}
use Rattle.ist_core.specs.Logs.{Log, state}
use Rattle.ist_core.specs.Slots.{SlotHolds, IsChildFor}
use Rattle.ist_core.specs.Links.{WasLinked, WasLedTo}
use Rattle.ist_core.specs.Rebuilding.{IsDue, IsStarted, IsBuilt}

-- ---- fresh rows

-- the leaf of a put
abbrev pub new_leaf : ChangeRow → Piece
new_leaf change = Leaf record { key = change.key; value = change.value }

-- how many leaves a pair row has
abbrev pub pair_leaves : ℕ
pair_leaves = 2

-- an inner row over two leaves: its one key is the key of the right leaf
abbrev pub pair_over : ℕ → ℕ → ℕ → Piece
pair_over right_key left right =
    Inner record {
      status = open_word;
      count = 0;
      degree = pair_leaves;
      size = pair_leaves;
      keys = right_key ∷ [];
      slots = word_of (LeafAt left) ∷ word_of (LeafAt right) ∷ [];
    }

-- the pair row over two leaves of different keys, each given by its key and its base: the smaller
-- key is on the left
abbrev pub pair_row : ℕ → ℕ → ℕ → ℕ → Piece
pair_row key base other_key other =
    if nat_lt other_key key then pair_over key other base else pair_over other_key base other

-- the rebuild that a start publishes
abbrev pub new_rebuild : ChangeRow → ℕ → Piece
new_rebuild change target =
    Rebuild record { target = target; parent = change.node; index = change.index; root = unset_word; draw = 0 }

-- ---- what the slot holds

-- the row at the base is a leaf of the key
pub record IsLeafOf (t : Snapshot) (base key : ℕ) : Type 0 where
  pub row : LeafRow
  pub published : t.pieces base ≡ Some (Leaf row)
  pub key_is : row.key ≡ key

-- the word leaves room for a leaf of the key: it is Empty, or a leaf of this key
pub data HasRoomFor (t : Snapshot) (key word : ℕ) : Type 0 where
  nothing : ref_of word ≡ Some Empty → HasRoomFor t key word
  same_key : (leaf : ℕ) → ref_of word ≡ Some (LeafAt leaf) → IsLeafOf t leaf key
      → HasRoomFor t key word

-- a put or remove reaches its slot by its key: the child for the key leads from each row on the
-- node's chain, and from the node to the slot
pub record ComesByKey (first : Snapshot) (log : Log) (change : ChangeRow) : Type 0 where
  pub led : WasLedTo first log change.key change.node
  pub index : IsChildFor (state first log) change.node change.key change.index

-- ---- the kinds of change, each with its fresh rows

-- a put of a fresh leaf into an empty slot, or in place of a leaf of the same key
pub record PutsLeaf (first : Snapshot) (log : Log) (change : ChangeRow) (fresh : List Row) : Type 0 where
  pub kind : change.kind ≡ put_kind
  pub by_key : ComesByKey first log change
  pub from : HasRoomFor (state first log) change.key change.from
  pub leaf : ℕ
  pub to : ref_of change.to ≡ Some (LeafAt leaf)
  pub fresh_are : fresh ≡ row_at leaf (new_leaf change) ∷ []

-- a put of a fresh pair row, over a fresh leaf and the leaf of another key that is in the slot
pub record PutsPair (first : Snapshot) (log : Log) (change : ChangeRow) (fresh : List Row) : Type 0 where
  pub kind : change.kind ≡ put_kind
  pub by_key : ComesByKey first log change
  pub other : ℕ
  pub other_key : ℕ
  pub from : ref_of change.from ≡ Some (LeafAt other)
  pub stands : IsLeafOf (state first log) other other_key
  pub differs : other_key ≢ change.key
  pub pair : ℕ
  pub leaf : ℕ
  pub to : ref_of change.to ≡ Some (InnerAt pair)
  pub above : change.node < pair
  pub fresh_are : fresh ≡ row_at pair (pair_row change.key leaf other_key other) ∷ row_at leaf (new_leaf change) ∷ []

-- a remove of the leaf of its key
pub record Removes (first : Snapshot) (log : Log) (change : ChangeRow) (fresh : List Row) : Type 0 where
  pub kind : change.kind ≡ remove_kind
  pub by_key : ComesByKey first log change
  pub leaf : ℕ
  pub from : ref_of change.from ≡ Some (LeafAt leaf)
  pub stands : IsLeafOf (state first log) leaf change.key
  pub to : ref_of change.to ≡ Some Empty
  pub value : change.value ≡ 0
  pub fresh_are : fresh ≡ []

-- the start of a rebuild of an inner row that is due, or that is the anchor's child
pub record Starts (t : Snapshot) (change : ChangeRow) (fresh : List Row) : Type 0 where
  pub kind : change.kind ≡ start_kind
  pub key : change.key ≡ 0
  pub value : change.value ≡ 0
  pub target : ℕ
  pub row : InnerRow
  pub from : ref_of change.from ≡ Some (InnerAt target)
  pub published : t.pieces target ≡ Some (Inner row)
  pub due : IsDue row ⊎ (change.node ≡ anchor)
  pub rebuild : ℕ
  pub to : ref_of change.to ≡ Some (RebuildAt rebuild)
  pub fresh_are : fresh ≡ row_at rebuild (new_rebuild change target) ∷ []

-- the finish of a started rebuild, which puts the built root into the rebuild's slot
pub record Finishes (t : Snapshot) (change : ChangeRow) (fresh : List Row) : Type 0 where
  pub kind : change.kind ≡ finish_kind
  pub key : change.key ≡ 0
  pub value : change.value ≡ 0
  pub rebuild : ℕ
  pub row : RebuildRow
  pub from : ref_of change.from ≡ Some (RebuildAt rebuild)
  pub published : t.pieces rebuild ≡ Some (Rebuild row)
  pub started : IsStarted t rebuild
  pub parent : row.parent ≡ change.node
  pub index : row.index ≡ change.index
  pub to : change.to ≡ row.root
  pub built : IsBuilt t row.root
  pub fresh_are : fresh ≡ []

-- the change meets the condition of its kind
pub data FitsKind (first : Snapshot) (log : Log) (change : ChangeRow) (fresh : List Row) : Type 0 where
  a_put : PutsLeaf first log change fresh → FitsKind first log change fresh
  a_pair : PutsPair first log change fresh → FitsKind first log change fresh
  a_remove : Removes first log change fresh → FitsKind first log change fresh
  a_start : Starts (state first log) change fresh → FitsKind first log change fresh
  a_finish : Finishes (state first log) change fresh → FitsKind first log change fresh

-- no change of the caller on the node was decided no
abbrev pub IsUnrefused : Snapshot → ℕ → ℕ → Type 0
IsUnrefused t caller node =
    (base : ℕ) (earlier : ChangeRow) → t.pieces base ≡ Some (Change earlier)
    → earlier.owner ≡ caller → earlier.node ≡ node → earlier.decision ≢ decided_no

-- the change at the base may be installed: its caller holds its row and its fresh rows, its slot
-- holds `from`, its node is linked or was, no change of the caller on this node was decided no, and
-- it meets its kind's condition
pub record CanInstall (first : Snapshot) (log : Log) (caller base : ℕ) (rows : List Row) : Type 0 where
  pub known : caller < (state first log).callers
  pub change : ChangeRow
  pub fresh : List Row
  pub rows_are : rows ≡ row_at base (Change change) ∷ fresh
  pub held : HoldsRows (state first log) caller rows
  pub owned : change.owner ≡ caller
  pub unset : change.decision ≡ undecided
  pub in_slot : SlotHolds (state first log) change.node change.index change.from
  pub linked : WasLinked first log change.node
  pub unrefused : IsUnrefused (state first log) caller change.node
  pub fits : FitsKind first log change fresh
