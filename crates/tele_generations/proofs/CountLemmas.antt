-- How many lanes a round has. Serves `run_round`.
use Rattle.std.proofs.Common.{ℕ, ◌≤◌, Bool, true, false, arith}
use Rattle.tele_generations.specs.Counts.{lane_count}

-- there is a lane if there is a worker
pub some_lanes : (workers : ℕ) (steal : Bool) → 1 ≤ workers → 1 ≤ lane_count workers steal
some_lanes workers true some = omega arith
some_lanes workers false some = some
