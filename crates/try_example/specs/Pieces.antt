-- How much of an interval is left after a piece.
use Rattle.std.specs.Prelude.{ℕ, ◌+◌, ◌-◌, Option, Some, None}

-- how many keys are left after a piece
abbrev pub keys_left : Option ℕ → ℕ → ℕ
keys_left (Some key) last = last + 1 - key
keys_left None last = 0
