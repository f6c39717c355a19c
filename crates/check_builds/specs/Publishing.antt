-- What a Root or a Place requires of its rows.
use Rattle.std.specs.Prelude.{◌≡◌, ℕ, List, slice_get, Some}
use Rattle.ist_core.specs.declared.lists.Row.{Row}
use Rattle.ist_core.specs.References.{InnerAt}
use Rattle.ist_core.specs.Elements.{Distinct}
use Rattle.ist_core.specs.Parts.{parts}
use Rattle.ist_core.specs.Snapshots.{Snapshot, bases_of, HoldsRows}
use Rattle.ist_core.specs.Leaves.{PlacedLeaf, HasLeaves}
use Rattle.check_builds.specs.Built.{BuildsAt, IsRootOf}

-- the caller holds these rows, each once
pub record MayPublish (t : Snapshot) (caller : ℕ) (rows : List Row) : Type 0 where
  pub held : HoldsRows t caller rows
  pub once : Distinct (bases_of rows)

-- the word and the rows are the root over the leaves of a target with k keys
pub record HasRootOf (t : Snapshot) (word k target : ℕ) (rows : List Row) : Type 0 where
  pub leaves : List PlacedLeaf
  pub reached : HasLeaves t.pieces (Some (InnerAt target)) leaves
  pub root : IsRootOf word k leaves target rows

-- the word and the rows are the ideal subtree over part i of these leaves, with bases above this
-- one
pub record IsPartOf (word i : ℕ) (leaves : List PlacedLeaf) (above : ℕ) (rows : List Row) : Type 0 where
  pub part : List PlacedLeaf
  pub part_is : slice_get (parts leaves) i ≡ Some part
  pub builds : BuildsAt word part above rows

-- the word and the rows are the ideal subtree over part i of the leaves of the target, with bases
-- above this one
pub record HasPart (t : Snapshot) (word i target above : ℕ) (rows : List Row) : Type 0 where
  pub leaves : List PlacedLeaf
  pub reached : HasLeaves t.pieces (Some (InnerAt target)) leaves
  pub part : IsPartOf word i leaves above rows
