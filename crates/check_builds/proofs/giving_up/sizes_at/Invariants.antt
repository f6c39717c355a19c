use Rattle.std.proofs.Common.{◌≡◌, ◌↔◌, ℕ, List, take}
use Rattle.ist_core.specs.LogTerms.{Snapshot}
use Rattle.ist_core.specs.TreeTerms.{HoldsSizes}
use Rattle.check_events.specs.Mirroring.{Mirrors}
use Rattle.check_builds.proofs.giving_up.sizes_at.Given as goal

-- these are the sizes of the rows at the bases so far, and no others are
abbrev pub invariant-loop-base : goal.invariant-loop-base
invariant-loop-base l = (t : Snapshot) → Mirrors l.replica t → (sizes : List ℕ)
    → (l.sizes.items ≡ sizes) ↔ HoldsSizes t l.caller (take l.base-index l.bases) sizes
