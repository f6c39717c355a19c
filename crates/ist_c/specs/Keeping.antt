-- What a handle keeps.
use Rattle.std.specs.Prelude.{◌≡◌, ℕ, true}
use Rattle.ist_handles.specs.declared.handles.Handle.{Handle}
use Rattle.ist_handles.specs.declared.held.Held.{Held}
use Rattle.ist_handles.specs.Results.{done, memory}

-- the handle holds this, or is as before if there is no memory for it
pub data KeepsInHandle (held : Held) : Handle → Handle → ℕ → Type 0 where
  keeps_it : (before after : Handle) → after.full ≡ true → after.opaque.value ≡ held
      → KeepsInHandle held before after done
  keeps_none : (out : Handle) → KeepsInHandle held out out memory
