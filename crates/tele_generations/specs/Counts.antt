-- How many lanes a round has.
use Rattle.std.specs.Prelude.{ℕ, Bool, true, false}

-- one per worker, or 64 if the workers steal them
abbrev pub lane_count : ℕ → Bool → ℕ
lane_count workers true = 64
lane_count workers false = workers
