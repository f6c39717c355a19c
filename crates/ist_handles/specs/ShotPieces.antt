-- A pass with its shot, and the pairs of the shot in pieces.
use Rattle.std.specs.Prelude.{◌≡◌, ℕ, ◌<◌, ◌≤◌, List, Option, IfSome}
use Rattle.ist_core.specs.declared.pairs.Pair.{Pair}
use Rattle.ist_core.specs.Map.{listed, pairs_between}
use Rattle.ist_tree.specs.declared.freezing.Frozen.{Frozen}
use Rattle.ist_tree.specs.Faces.{PassFace}
use Rattle.ist_live.specs.Pieces.{end_of}
use Rattle.ist_scan.specs.Shots.{ArePairsOf, IsOf, map_seen}
use Rattle.ist_handles.specs.declared.passes.TreePass.{TreePass}

-- a pass that took a shot, and the shot
pub record ShotFace : Type 0 where
  pub taker : TreePass
  pub shot : Frozen

-- the pairs are those of the shot from the first key of an interval up to the next piece; they are the
-- map's at each position that the shot is of
pub record IsShotPiece (p : PassFace) (shot : Frozen) (first last : ℕ) (next : Option ℕ)
    (pairs : List Pair) : Type 0 where
  pub by_pairs : (all : List Pair) → ArePairsOf p shot all
      → pairs ≡ pairs_between first (end_of next last) all
  pub of_map : (position : ℕ) → IsOf p position shot
      → pairs ≡ listed first (end_of next last) (map_seen p position)
  pub goes_on : IfSome next (λ key. (first < key) × (key ≤ last))
