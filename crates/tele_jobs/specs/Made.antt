-- Lines that are made from a number, by arithmetic modulo 2 ^ 64.
use Rattle.std.specs.Prelude.{ℕ, zero, suc, ◌+◌, ◌*◌, ◌/◌, ◌%◌, ◌^◌, ◌==◌, nat_lt, if◌then◌else◌, List, [], ◌∷◌}
use Rattle.ist_core.specs.declared.commands.Command.{Command}
use Rattle.ist_core.specs.declared.commands.Command.TheVariants.{Put, Remove, Get}

-- the number after another; the first is the seed, and each line is made from the number after the
-- last one
abbrev pub next_number : ℕ → ℕ
next_number x = (6364136223846793005 * x + 1442695040888963407) % 2 ^ 64

-- the timestamp of the line that is made from a number
abbrev pub made_key : ℕ → ℕ
made_key x = x / 2 ^ 40 % 65536

-- the value of such a line
abbrev pub made_value : ℕ → ℕ
made_value x = x / 2 ^ 8 % 65536

-- what such a line asks for: its highest three bits choose a put, five times in eight, a remove, or
-- a get
abbrev pub made_command : ℕ → Command
made_command x =
    if nat_lt (x / 2 ^ 61) 5 then Put (made_key x) (made_value x)
    else (if x / 2 ^ 61 == 5 then Remove (made_key x) else Get (made_key x))

-- this many lines made from a seed
abbrev pub made_commands : ℕ → ℕ → List Command
made_commands zero x = []
made_commands (suc count) x = made_command (next_number x) ∷ made_commands count (next_number x)
