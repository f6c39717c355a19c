-- The guess: where linear interpolation between the end keys of a node points, and how far off it is.
use Rattle.std.specs.Prelude.{ℕ, ◌+◌, ◌-◌, ◌*◌, ◌/◌, nat_le, nat_lt, if◌then◌else◌, List, length, slice_index}

-- how many keys are at most x, if m keys from `first` to `last` are spread evenly
abbrev pub guess_of : ℕ → ℕ → ℕ → ℕ → ℕ
guess_of first last m x =
    if nat_lt x first then 0
    else (if nat_le last x then m
    else 1 + (x - first) * (m - 1) / (last - first))

-- the child at which linear interpolation between the end keys points
abbrev pub guess_in : List ℕ → ℕ → ℕ
guess_in keys key =
    guess_of (slice_index keys 0) (slice_index keys (length keys - 1)) (length keys) key

-- how far two numbers lie apart
abbrev pub distance : ℕ → ℕ → ℕ
distance a b = (a - b) + (b - a)
