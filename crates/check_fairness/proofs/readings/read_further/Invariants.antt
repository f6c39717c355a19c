use Rattle.std.proofs.Common.{◌↔◌, ℕ, List, map, drop, ◌++◌}
use Rattle.check_fairness.specs.Readings.{SomeGoes}
use Rattle.check_fairness.proofs.readings.read_further.Given as goal

-- what goes on from the first readings after all sizes goes on from the readings so far after the
-- rest of the sizes
abbrev pub invariant-loop-size : goal.invariant-loop-size
invariant-loop-size l =
    (more : List ℕ) → SomeGoes (map (λ v. v.items) l.lists) l.room l.readings.items
    (drop l.size-index l.sizes ++ more)
    ↔ SomeGoes (map (λ v. v.items) l.lists) l.room l.before (l.sizes ++ more)
