-- Which rows a caller may reserve: those of a build that it is making, and a few others.
use Rattle.std.specs.Prelude.{◌≡◌, ℕ, ◌+◌, ◌<◌, ◌≤◌, List, [], ◌∷◌, ◌++◌, Some}
use Rattle.ist_core.specs.declared.states.RebuildRow.{RebuildRow}
use Rattle.ist_core.specs.Arithmetic.{degree, part_len}
use Rattle.ist_core.specs.RowLayout.{leaf_words, rebuild_words, pair_words, change_words, inner_words}
use Rattle.ist_core.specs.Shapes.{shape, share_from}
use Rattle.ist_core.specs.Elements.{Among, Each, Distinct}
use Rattle.ist_core.specs.Pieces.{Rebuild}
use Rattle.ist_core.specs.Snapshots.{Snapshot}
use Rattle.ist_core.specs.Rebuilding.{IsStarted, IsFinishedWith}

-- the sizes of the rows of one build over k keys: the whole subtree, or, if helpers share it, the
-- top row only, or one part
pub data IsBuild (k : ℕ) : List ℕ → Type 0 where
  build_whole : 2 ≤ k → k < share_from → IsBuild k (shape k)
  build_top : share_from ≤ k → IsBuild k (inner_words (degree k) ∷ [])
  build_part : (j : ℕ) → share_from ≤ k → j < degree k → IsBuild k (shape (part_len k j))

-- a building list: the row sizes of a build for a started rebuild with a finished target
pub record IsBuilding (t : Snapshot) (sizes : List ℕ) : Type 0 where
  pub rebuild : ℕ
  pub row : RebuildRow
  pub published : t.pieces rebuild ≡ Some (Rebuild row)
  pub started : IsStarted t rebuild
  pub k : ℕ
  pub finished : IsFinishedWith t row.target k
  pub build : IsBuild k sizes

-- a building list begins with these sizes, and its next size doesn't fit into the free words
pub record IsStuck (t : Snapshot) (sizes : List ℕ) : Type 0 where
  pub next_size : ℕ
  pub rest : List ℕ
  pub building : IsBuilding t (sizes ++ next_size ∷ rest)
  pub no_room : t.words < t.next + next_size

-- the sizes are prefixes of building lists, one after another, and each but the last is stuck
pub data AreBuilds (t : Snapshot) : List ℕ → Type 0 where
  no_build : AreBuilds t []
  last_build : {sizes : List ℕ} (rest : List ℕ) → IsBuilding t (sizes ++ rest) → AreBuilds t sizes
  stuck_build : {sizes more : List ℕ} → IsStuck t sizes → AreBuilds t more
      → AreBuilds t (sizes ++ more)

-- the first list interleaves the second and the third, and keeps the order of each
pub data IsMerge : List ℕ → List ℕ → List ℕ → Type 0 where
  at_end : IsMerge [] [] []
  from_left : {sizes left right : List ℕ} (size : ℕ) → IsMerge sizes left right
      → IsMerge (size ∷ sizes) (size ∷ left) right
  from_right : {sizes left right : List ℕ} (size : ℕ) → IsMerge sizes left right
      → IsMerge (size ∷ sizes) left (size ∷ right)

-- the sizes of the rows that a caller may hold in addition to a build, one of each
abbrev pub spare_sizes : List ℕ
spare_sizes = leaf_words ∷ rebuild_words ∷ pair_words ∷ change_words ∷ []

-- the sizes are fair: except for at most one of each spare size, they are the sizes of builds
pub record IsFair (t : Snapshot) (sizes : List ℕ) : Type 0 where
  pub building : List ℕ
  pub spare : List ℕ
  pub merge : IsMerge sizes building spare
  pub builds : AreBuilds t building
  pub few : Each (λ size. Among size spare_sizes) spare
  pub one_each : Distinct spare
