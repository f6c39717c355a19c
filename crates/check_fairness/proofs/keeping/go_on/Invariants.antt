use Rattle.std.proofs.Common.{◌≡◌, ◌++◌, map, take}
use Rattle.check_fairness.specs.Keeping.{IsKept}
use Rattle.check_fairness.proofs.keeping.go_on.Given as goal

-- what is kept so far is right, if it was, for the sizes up to here, and by the same lists
abbrev pub invariant-loop-size : goal.invariant-loop-size
invariant-loop-size l =
    (IsKept (map (λ v. v.items) l.lists) l.initial.kept → IsKept (map (λ v. v.items) l.lists) l.kept)
    × ((l.kept.sizes.items ≡ l.initial.kept.sizes.items ++ take l.size-index l.sizes)
    × (l.kept.lists ≡ l.initial.kept.lists))
