use Rattle.std.proofs.Common.{◌↔◌, ℕ, List, map, take, ◌∷◌}
use Rattle.check_fairness.specs.Readings.{SomeGoes}
use Rattle.check_fairness.proofs.readings.read_on.Given as goal

-- what the readings so far leave after the size
abbrev pub invariant-loop-reading : goal.invariant-loop-reading
invariant-loop-reading l =
    (sizes : List ℕ) → SomeGoes (map (λ v. v.items) l.lists) l.room l.next.items sizes
    ↔ SomeGoes (map (λ v. v.items) l.lists) l.room (take l.reading-index l.readings)
    (l.size ∷ sizes)
