use Rattle.std.proofs.Common.{◌↔◌, ◌⊎◌, ℕ, List, map, take}
use Rattle.check_fairness.specs.Readings.{SomeGoes, BeginsAmong}
use Rattle.check_fairness.proofs.readings.add_begun.Given as goal

-- what is left of each list so far that begins with the size was added
abbrev pub invariant-loop-list : goal.invariant-loop-list
invariant-loop-list l =
    (sizes : List ℕ) → SomeGoes (map (λ v. v.items) l.lists) l.room l.next.items sizes
    ↔ (SomeGoes (map (λ v. v.items) l.lists) l.room l.initial.next.items sizes ⊎ BeginsAmong
    (map (λ v. v.items) l.lists) (take l.list (map (λ v. v.items) l.lists)) l.room l.may l.size
    sizes)
