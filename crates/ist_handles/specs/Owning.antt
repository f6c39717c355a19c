-- What an opaque box owns.
use Rattle.std.specs.Prelude.{Bool, true, false}
use mir.Syntax.{Ty}
use base.Fml.{Fml, ftrue}
use denote.RattleType.{RattleType}
use denote.RawPtr.{Ptr}
use Rattle.std.specs.Box.Ownership.{box_owns}

-- if it is full, the value at the pointer, and the right to free it
abbrev pub held_if : (Ty → Ptr → Fml) → (R : RattleType) → Bool → Ptr → R.Denot → Fml
held_if holds R true p x = box_owns holds R p x
held_if holds R false p x = ftrue
