use Rattle.std.proofs.Common.{reverse, Some}
use Rattle.ist_core.specs.WordTerms.{InnerAt}
use Rattle.ist_core.specs.LogTerms.{Snapshot}
use Rattle.ist_core.specs.TreeTerms.{HasLeaves}
use Rattle.check_events.specs.Mirroring.{Mirrors}
use Rattle.check_builds.proofs.GatherLemmas.{IsFoundAndLeft}
use Rattle.check_builds.proofs.leaves.add_leaves.Given as goal

-- the leaves found so far, and what is left to be found below the slots that wait
abbrev pub invariant-loop : goal.invariant-loop
invariant-loop l = (t : Snapshot) → Mirrors l.replica t
    → IsFoundAndLeft t.pieces (λ ls. HasLeaves t.pieces (Some (InnerAt l.base)) ls) l.fn.out.items l.out.items
    (reverse l.waiting.items)
