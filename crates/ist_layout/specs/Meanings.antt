-- Which reference or status of the definitions of `ist_core` each one of this crate means.
use Rattle.ist_core.specs.References as references
use Rattle.ist_core.specs.Statuses as statuses
use Rattle.ist_layout.specs.declared.references.Ref.{Ref}
use Rattle.ist_layout.specs.declared.references.Ref.TheVariants.{Empty, Unset, Leaf, Inner, Change, Rebuild}
use Rattle.ist_layout.specs.declared.statuses.Status.{Status}
use Rattle.ist_layout.specs.declared.statuses.Status.TheVariants.{Clear, Marked, Finished}

-- the reference that is meant
abbrev pub ref_meant : Ref → references.Ref
ref_meant Empty = references.Empty
ref_meant Unset = references.Unset
ref_meant (Leaf base) = references.LeafAt base
ref_meant (Inner base) = references.InnerAt base
ref_meant (Change base) = references.ChangeAt base
ref_meant (Rebuild base) = references.RebuildAt base

-- the status that is meant
abbrev pub status_meant : Status → statuses.Status
status_meant Clear = statuses.Open
status_meant Marked = statuses.Marked
status_meant (Finished keys) = statuses.Finished keys
