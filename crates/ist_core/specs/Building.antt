-- When a rebuild may get its root, when a part of it may be drawn and placed, and when built rows may be given up.
use Rattle.std.specs.Prelude.{◌≡◌, ℕ, ◌<◌, ◌≤◌, ◌⊎◌, ◌≢◌, List, [], ◌∷◌, length, replicate, slice_get, Some}
use Rattle.ist_core.specs.declared.states.InnerRow.{InnerRow}
use Rattle.ist_core.specs.declared.states.RebuildRow.{RebuildRow}
use Rattle.ist_core.specs.declared.lists.Row.{Row}
use Rattle.ist_core.specs.declared.events.Event.TheVariants.{Root, Place, Lose}
use Rattle.ist_core.specs.Arithmetic.{degree}
use Rattle.ist_core.specs.RowLayout.{pair_words}
use Rattle.ist_core.specs.Shapes.{share_from}
use Rattle.ist_core.specs.References.{Ref, InnerAt, ref_of, unset_word}
use Rattle.ist_core.specs.Elements.{Distinct}
use Rattle.ist_core.specs.Parts.{parts}
use Rattle.ist_core.specs.Pieces.{Inner, Rebuild, Pieces, with_inners}
use Rattle.ist_core.specs.Snapshots.{Snapshot, bases_of, sizes_of, HoldsRow, HoldsRows}
use Rattle.ist_core.specs.Logs.{Log, Happened, Draws}
use Rattle.ist_core.specs.Leaves.{PlacedLeaf, HasLeaves}
use Rattle.ist_core.specs.Ideals.{IsTop, IsIdeal}
use Rattle.ist_core.specs.Rebuilding.{IsStarted, IsFinishedWith}
use Rattle.ist_core.specs.Fairness.{IsBuilding}

-- the word is the root for a target with k keys and these leaves: if k is small, the whole ideal
-- subtree above the target, and otherwise only its top row, with every slot Unset. `rows` are the
-- bases of its inner rows
pub data IsRoot (ps : Pieces) (word k : ℕ) (leaves : List PlacedLeaf) (target : ℕ) (rows : List ℕ) : Type 0 where
  root_whole : (ref : Ref) → k < share_from → ref_of word ≡ Some ref
      → IsIdeal ps ref leaves target rows
      → IsRoot ps word k leaves target rows
  root_top : (base : ℕ) (row : InnerRow) → share_from ≤ k → ref_of word ≡ Some (InnerAt base)
      → IsTop ps base row leaves target → row.slots ≡ replicate (degree (length leaves)) unset_word
      → rows ≡ base ∷ []
      → IsRoot ps word k leaves target rows

-- a started rebuild without a root and with a finished target may get one: the root's inner rows
-- are exactly these, and the caller holds them
pub record CanRoot (t : Snapshot) (caller rebuild word : ℕ) (rows : List Row) : Type 0 where
  pub known : caller < t.callers
  pub row : RebuildRow
  pub published : t.pieces rebuild ≡ Some (Rebuild row)
  pub started : IsStarted t rebuild
  pub rootless : row.root ≡ unset_word
  pub k : ℕ
  pub finished : IsFinishedWith t row.target k
  pub leaves : List PlacedLeaf
  pub reached : HasLeaves t.pieces (Some (InnerAt row.target)) leaves
  pub root : IsRoot (with_inners t.pieces rows) word k leaves row.target (bases_of rows)
  pub once : Distinct (bases_of rows)
  pub held : HoldsRows t caller rows

-- a part of a shared root may be drawn: its number is the rebuild's draw word, and the caller has
-- not yet drawn a number past the last part
pub record CanDraw (t : Snapshot) (log : Log) (caller rebuild part : ℕ) : Type 0 where
  pub known : caller < t.callers
  pub row : RebuildRow
  pub published : t.pieces rebuild ≡ Some (Rebuild row)
  pub rooted : row.root ≢ unset_word
  pub k : ℕ
  pub finished : IsFinishedWith t row.target k
  pub shared : share_from ≤ k
  pub part_is : part ≡ row.draw
  pub not_past : (earlier : ℕ) → Happened (Draws caller rebuild earlier) log → earlier < degree k

-- an Unset slot of a root may get the ideal subtree over its part of the target's leaves, above the
-- root: the subtree's inner rows are exactly these, and the caller holds them
pub record CanPlace (t : Snapshot) (caller rebuild i word : ℕ) (rows : List Row) : Type 0 where
  pub known : caller < t.callers
  pub row : RebuildRow
  pub published : t.pieces rebuild ≡ Some (Rebuild row)
  pub root : ℕ
  pub root_is : ref_of row.root ≡ Some (InnerAt root)
  pub root_row : InnerRow
  pub root_published : t.pieces root ≡ Some (Inner root_row)
  pub free : slice_get root_row.slots i ≡ Some unset_word
  pub leaves : List PlacedLeaf
  pub reached : HasLeaves t.pieces (Some (InnerAt row.target)) leaves
  pub part : List PlacedLeaf
  pub part_is : slice_get (parts leaves) i ≡ Some part
  pub ref : Ref
  pub ref_is : ref_of word ≡ Some ref
  pub ideal : IsIdeal (with_inners t.pieces rows) ref part root (bases_of rows)
  pub once : Distinct (bases_of rows)
  pub held : HoldsRows t caller rows

-- ---- Lose

-- the caller holds rows at these bases with these sizes
abbrev pub HoldsSizes : Snapshot → ℕ → List ℕ → List ℕ → Type 0
HoldsSizes t caller [] [] = Unit {0}
HoldsSizes t caller (base ∷ bases) (size ∷ sizes) = HoldsRow t caller base size × HoldsSizes t caller bases sizes
HoldsSizes t caller _ _ = ⊥

-- since the caller's last Root, Place or Lose, another caller made a Root or Place with rows of
-- these sizes
abbrev pub IsBeaten : ℕ → List ℕ → Log → Type 0
IsBeaten caller sizes [] = ⊥
IsBeaten caller sizes (Root c rebuild word rows ∷ log) =
    (c ≢ caller) × ((sizes_of rows ≡ sizes) ⊎ IsBeaten caller sizes log)
IsBeaten caller sizes (Place c rebuild i word rows ∷ log) =
    (c ≢ caller) × ((sizes_of rows ≡ sizes) ⊎ IsBeaten caller sizes log)
IsBeaten caller sizes (Lose c bases ∷ log) = (c ≢ caller) × IsBeaten caller sizes log
IsBeaten caller sizes (_ ∷ log) = IsBeaten caller sizes log

-- a held pair row may be given up if an inner row with a higher base is published, since the pair
-- row may then be too low for its node
pub record LosesPair (t : Snapshot) (caller : ℕ) (bases : List ℕ) : Type 0 where
  pub pair : ℕ
  pub bases_are : bases ≡ pair ∷ []
  pub held : HoldsRow t caller pair pair_words
  pub node : ℕ
  pub row : InnerRow
  pub published : t.pieces node ≡ Some (Inner row)
  pub above : pair < node

-- the rows of a build may be given up if another caller has published such a build since
pub record LosesBuild (t : Snapshot) (log : Log) (caller : ℕ) (bases : List ℕ) : Type 0 where
  pub sizes : List ℕ
  pub held : HoldsSizes t caller bases sizes
  pub once : Distinct bases
  pub building : IsBuilding t sizes
  pub beaten : IsBeaten caller sizes log

-- held rows may be given up: a pair row, or the rows of a build
pub record CanLose (t : Snapshot) (log : Log) (caller : ℕ) (bases : List ℕ) : Type 0 where
  pub known : caller < t.callers
  pub cause : LosesPair t caller bases ⊎ LosesBuild t log caller bases
