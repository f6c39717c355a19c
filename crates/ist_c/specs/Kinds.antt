-- What a handle doesn't hold, so that a call by it is misuse.
use Rattle.std.specs.Prelude.{◌≡◌, ◌≢◌, true}
use Rattle.std.specs.Arc.{arc_value}
use Rattle.ist_handles.specs.declared.closed_trees.ClosedTree.{ClosedTree}
use Rattle.ist_handles.specs.declared.closed_trees.LeftPairs.{LeftPairs}
use Rattle.ist_handles.specs.declared.handles.Handle.{Handle}
use Rattle.ist_handles.specs.declared.held.Held.{Held}
use Rattle.ist_handles.specs.declared.held.Held.TheVariants as of
use Rattle.ist_handles.specs.declared.owners.TreeOwner.{TreeOwner}
use Rattle.ist_handles.specs.declared.passes.TreePass.{TreePass}
use Rattle.ist_handles.specs.ShotPieces.{ShotFace}

-- this is no owner
abbrev pub IsNoOwner : Held → Type 0
IsNoOwner held = (owner : TreeOwner) → held ≢ of.Owner owner

-- this is no pass, or it is one with a shot
abbrev pub IsNoPass : Held → Type 0
IsNoPass held = (pass : TreePass) → held ≢ of.Pass pass

-- this is no pass with a shot
abbrev pub IsNoShot : Held → Type 0
IsNoShot held = (shot : ShotFace) → held ≢ of.Shot shot

-- this is no closed tree that waits for memory or for more words
abbrev pub IsNotClosed : Held → Type 0
IsNotClosed held = (closed : ClosedTree) → held ≢ of.Closed closed

-- these are no pairs that a closed tree left
abbrev pub AreNoPairs : Held → Type 0
AreNoPairs held = (left : LeftPairs) → held ≢ of.Left left

-- the owner is of the same tree, and its maker is as it was
abbrev pub IsSameOwner : TreeOwner → TreeOwner → Type 0
IsSameOwner o q = (arc_value q.tree ≡ arc_value o.tree) × (q.maker ≡ o.maker)

-- the handle is as it was: it is empty still, or holds the same
abbrev pub IsAsBefore : Handle → Handle → Type 0
IsAsBefore before after =
    (after.full ≡ before.full) × (before.full ≡ true → after.opaque.value ≡ before.opaque.value)
