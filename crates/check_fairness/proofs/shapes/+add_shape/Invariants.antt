use Rattle.std.proofs.Common.{◌≡◌, ◌++◌, map}
use Rattle.std.specs.List.{flat_map, range_with_len}
use Rattle.ist_core.specs.WordTerms.{part_len, shape}
use Rattle.check_fairness.proofs.shapes.+add_shape.Given as goal

abbrev pub decreases-add_shape : goal.decreases-add_shape
decreases-add_shape l = l.n

-- the shapes of the parts so far follow the node's own length
abbrev pub invariant-loop-j : goal.invariant-loop-j
invariant-loop-j l = l.out.items ≡ l.initial.out.items ++ flat_map shape
    (map (part_len l.n) (range_with_len 0 l.j))
