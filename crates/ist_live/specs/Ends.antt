-- The next pair above or below a key, as a pass reads it.
use Rattle.std.specs.Prelude.{ℕ, ◌+◌, ◌^◌, ◌<◌, ◌≤◌, Option, Some, None}
use Rattle.ist_core.specs.declared.pairs.Pair.{Pair}
use Rattle.ist_tree.specs.Faces.{PassFace}
use Rattle.ist_live.specs.Reading.{Had, HadNone}

-- the pair's key is at least this one and had its value at some position of the call, and each key from
-- this one to before it had none at a position of its own; or no key from this one on had a value
abbrev pub IsNextUp : PassFace → PassFace → ℕ → Option Pair → Type 0
IsNextUp p q key (Some pair) = (key ≤ pair.key) × Had p q pair.key (Some pair.value)
    × HadNone p q key pair.key
IsNextUp p q key None = HadNone p q key (2 ^ 64)

-- the same downwards, for the keys below `following`
abbrev pub IsNextDown : PassFace → PassFace → ℕ → Option Pair → Type 0
IsNextDown p q following (Some pair) = (pair.key < following) × Had p q pair.key (Some pair.value)
    × HadNone p q (pair.key + 1) following
IsNextDown p q following None = HadNone p q 0 following

-- the first key that was not read by a search upwards for this pair
abbrev pub end_up : Option Pair → ℕ
end_up (Some pair) = pair.key + 1
end_up None = 2 ^ 64

-- the least key that was read by a search downwards for this pair
abbrev pub end_down : Option Pair → ℕ
end_down (Some pair) = pair.key
end_down None = 0
