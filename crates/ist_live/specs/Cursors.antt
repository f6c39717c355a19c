-- A place between keys, from which a pass reads on.
use Rattle.std.specs.Prelude.{ℕ, ◌^◌, Option, Some, None}

-- the number of keys below the place of a cursor: the next key upwards, or all keys
abbrev pub cursor_place : Option ℕ → ℕ
cursor_place (Some key) = key
cursor_place None = 2 ^ 64
