use Rattle.std.proofs.Common.{map, take}
use Rattle.ist_core.specs.LogTerms.{Among}
use Rattle.check_fairness.proofs.shapes.is_listed.Given as goal

-- none of the lists so far is the one
abbrev pub invariant-loop-list : goal.invariant-loop-list
invariant-loop-list l = ¬ (Among l.sizes (map (λ v. v.items) (take l.list-index l.lists)))
