-- What the table of passes requires of the log. It holds for every lawful log.
use Rattle.std.specs.Prelude.{◌≡◌, ℕ}
use Rattle.ist_core.specs.Logs.{Log, Happened, Passes}

-- all passes of a slot name one word
abbrev pub PassesAreOne : Log → Type 0
PassesAreOne log = (node i word other : ℕ) → Happened (Passes node i word) log → Happened (Passes node i other) log → word ≡ other
