-- A change with a command is a put or remove. Serves the laws on updates.
use Rattle.std.proofs.Common.{◌≡◌, Some, arith}
use Rattle.std.proofs.lemmas.Bool.Decides.{eqb_tells}
use Rattle.ist_core.specs.Types.{Command, ChangeRow}
use Rattle.ist_core.specs.TreeTerms.{IsUpdate, command_of}

-- a change with a command is a put or remove
pub command_update : (x : ChangeRow) (command : Command) → command_of x ≡ Some command
    → IsUpdate x.kind
command_update x command is = grind (arith, eqb_tells)
