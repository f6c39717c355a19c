use Rattle.std.proofs.Common.{◌≡◌, ◌-◌, map, length, get_or}
use Rattle.std.specs.List.{range_with_len}
use Rattle.ist_core.specs.WordTerms.{part_start}
use Rattle.check_state.proofs.opening.keys_of.Given as goal

-- the first keys of the parts so far, but the first
abbrev pub invariant-loop-j : goal.invariant-loop-j
invariant-loop-j l =
    l.keys.items ≡ map (λ i. get_or (map (λ pair. pair.key) l.pairs) (part_start (length l.pairs) i)
    0) (range_with_len 1 (l.j - 1))
