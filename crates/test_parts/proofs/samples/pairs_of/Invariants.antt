use Rattle.std.proofs.Common.{◌≡◌, map}
use Rattle.std.specs.List.{range_with_len}
use Rattle.test_parts.proofs.samples.pairs_of.Given as goal

-- the keys so far are the numbers from 0 on
abbrev pub invariant-loop-key : goal.invariant-loop-key
invariant-loop-key l = map (λ pair. pair.key) l.pairs.items ≡ map (λ i. i) (range_with_len 0 l.key)
