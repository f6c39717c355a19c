-- What these decisions require of a state in addition to its replica. It holds after every lawful
-- log.
use Rattle.std.specs.Prelude.{◌≡◌, None}
use Rattle.ist_core.specs.declared.lists.HeldRow.{HeldRow}
use Rattle.ist_core.specs.Elements.{Among}
use Rattle.ist_core.specs.Snapshots.{Snapshot}

-- if a row is held, none is published at its base
abbrev pub HeldAreFree : Snapshot → Type 0
HeldAreFree t = (h : HeldRow) → Among h t.held → t.pieces h.base ≡ None
