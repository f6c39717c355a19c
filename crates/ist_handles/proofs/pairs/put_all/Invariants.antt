use Rattle.std.proofs.Common.{◌≡◌, drop}
use Rattle.ist_core.specs.TreeTerms.{map_of, no_pairs, replay}
use Rattle.ist_handles.specs.Pairs.{puts_of}
use Rattle.ist_handles.proofs.pairs.put_all.Given as goal

-- the pairs so far were put, and the others are left
abbrev pub invariant-loop-pair : goal.invariant-loop-pair
invariant-loop-pair l =
    replay (map_of l.map) (puts_of (drop l.pair-index l.pairs)) ≡ replay no_pairs (puts_of l.pairs)
