use Rattle.std.proofs.Common.{ℕ, ◌+◌, ◌<◌}
use Rattle.plain_map.specs.Place.{key_at}
use Rattle.ist_handles.proofs.pairs.are_rising.Given as goal

-- the keys so far rise from each to the next
abbrev pub invariant-loop-at : goal.invariant-loop-at
invariant-loop-at l = (k : ℕ) → k + 1 < l.at → key_at l.pairs k < key_at l.pairs (k + 1)
