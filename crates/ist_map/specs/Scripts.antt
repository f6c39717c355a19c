-- Calls that are made one after another.
use Rattle.std.specs.Prelude.{ℕ, List, [], ◌∷◌, Option}
use Rattle.ist_core.specs.declared.commands.Command.{Command}
use Rattle.ist_core.specs.Replies.{Answered, told}

-- calls to be made: their commands, and the replies to the first of them
pub record ScriptFace : Type 0 where
  pub commands : List Command
  pub replies : List (Option ℕ)

-- the commands and the replies so far
abbrev pub script : List Command → List (Option ℕ) → ScriptFace
script commands replies = record { commands = commands; replies = replies }

-- the first commands, each with its reply, as far as there are replies
abbrev pub told_in : List Command → List (Option ℕ) → List Answered
told_in [] replies = []
told_in (command ∷ commands) [] = []
told_in (command ∷ commands) (reply ∷ replies) = told command reply ∷ told_in commands replies
