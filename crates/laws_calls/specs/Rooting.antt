-- The law over lawful logs on the form of a rebuild's root. `src/rows.rt` names it.
use Rattle.std.specs.Prelude.{List, Some, slice_get, ℕ, ◌<◌, ◌≡◌, ◌≢◌, ◌≤◌}
use Rattle.ist_core.specs.declared.pairs.Pair.{Pair}
use Rattle.ist_core.specs.declared.states.InnerRow.{InnerRow}
use Rattle.ist_core.specs.declared.states.RebuildRow.{RebuildRow}
use Rattle.ist_core.specs.Arithmetic.{degree}
use Rattle.ist_core.specs.Lawful.{Lawful, state_of}
use Rattle.ist_core.specs.Logs.{Log}
use Rattle.ist_core.specs.Pieces.{Inner, Rebuild}
use Rattle.ist_core.specs.Rebuilding.{IsFinishedWith}
use Rattle.ist_core.specs.References.{InnerAt, ref_of, unset_word}
use Rattle.ist_core.specs.Shapes.{share_from}
use Rattle.ist_core.specs.Snapshots.{Snapshot}

-- the row at the base is an inner row, and no slot of it is Unset
pub record IsWholeRow (t : Snapshot) (base : ℕ) : Type 0 where
  pub row : InnerRow
  pub published : t.pieces base ≡ Some (Inner row)
  pub set : (i : ℕ) → slice_get row.slots i ≢ Some unset_word

-- the word names an inner row of this degree
pub record NamesRowOf (t : Snapshot) (word d : ℕ) : Type 0 where
  pub base : ℕ
  pub ref_is : ref_of word ≡ Some (InnerAt base)
  pub row : InnerRow
  pub published : t.pieces base ≡ Some (Inner row)
  pub degree_is : row.degree ≡ d

-- the word is a root over k keys: if k is small, no slot of its row is Unset, and otherwise it is a
-- row with one slot for each part
pub record HasRootForm (t : Snapshot) (word k : ℕ) : Type 0 where
  pub few : k < share_from → (base : ℕ) → ref_of word ≡ Some (InnerAt base) → IsWholeRow t base
  pub many : share_from ≤ k → NamesRowOf t word (degree k)

-- each root has this form, for the keys of its target
abbrev pub RootsHaveTheirForm : Type 0
RootsHaveTheirForm =
    (pairs : List Pair) (words : ℕ) (log : Log) → Lawful pairs words log
    → (rebuild k : ℕ) (row : RebuildRow)
    → (state_of pairs words log).pieces rebuild ≡ Some (Rebuild row) → row.root ≢ unset_word
    → IsFinishedWith (state_of pairs words log) row.target k
    → HasRootForm (state_of pairs words log) row.root k
