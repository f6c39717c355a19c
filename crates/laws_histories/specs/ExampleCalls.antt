-- A small log, and calls of two passes, that show what the laws mean.
use Rattle.std.specs.Prelude.{false, List, [], ◌∷◌, Some}
use Rattle.ist_core.specs.declared.commands.Command.TheVariants.{Put, Get}
use Rattle.ist_core.specs.declared.calls.Call.{Call}
use Rattle.ist_core.specs.declared.events.Event.TheVariants.{Install, Decide, Resolve, Mark}
use Rattle.ist_core.specs.Replies.{Answered, told}
use Rattle.ist_core.specs.Logs.{Log}
use Rattle.ist_core.specs.Histories.{PassCalls}
use Rattle.ist_core.specs.ExampleLogs.{late_reserved, late_rows}

-- ---- a put that is refused

-- the put of (20, 9) is installed in the target of a rebuild, but only after the mark
abbrev pub refused_installed : Log
refused_installed = Install 1 31 late_rows ∷ Mark 0 4 ∷ late_reserved

-- it is decided no, and leaves its slot
abbrev pub refused : Log
refused = Resolve 0 31 ∷ Decide 2 31 false ∷ refused_installed

-- ---- two passes, while a rebuild overtakes the put

-- the put of (20, 9), when the key had the value 2
abbrev pub the_put : Call
the_put = record { command = Put 20 9; reply = Some 2; position = 0; stamp = 1 }

-- a find that comes before the put
abbrev pub early_find : Call
early_find = record { command = Get 20; reply = Some 2; position = 0; stamp = 1 }

-- a find that sees the put
abbrev pub late_find : Call
late_find = record { command = Get 20; reply = Some 9; position = 1; stamp = 2 }

-- the pass that puts, with number 1
abbrev pub writer : PassCalls
writer = record { number = 1; calls = the_put ∷ [] }

-- the pass that finds, with number 2
abbrev pub reader : PassCalls
reader = record { number = 2; calls = early_find ∷ late_find ∷ [] }

-- their one history
abbrev pub one_history : List Answered
one_history = told (Get 20) (Some 2) ∷ told (Put 20 9) (Some 2) ∷ told (Get 20) (Some 9) ∷ []
