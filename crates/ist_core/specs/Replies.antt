-- What a caller of a shared map learnt from its calls.
use Rattle.std.specs.Prelude.{ℕ, Option}
use Rattle.ist_core.specs.declared.commands.Command.{Command}
use Rattle.ist_core.specs.declared.ports.Full.{Full}

-- a command, and the reply to it
pub record Answered : Type 0 where
  pub command : Command
  pub reply : Option ℕ

-- the command with this reply
abbrev pub told : Command → Option ℕ → Answered
told command reply = record { command = command; reply = reply }

-- a command that failed because the table is full, and the numbers that it got
pub record Refused : Type 0 where
  pub command : Command
  pub full : Full

-- a failed command with these numbers
abbrev pub refusal : Command → Full → Refused
refusal command full = record { command = command; full = full }
