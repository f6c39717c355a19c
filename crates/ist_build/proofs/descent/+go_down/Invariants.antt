use Rattle.std.proofs.Common.{◌≡◌, ◌+◌, ◌*◌, ◌-◌, ◌^◌, ◌≤◌, List, [], ◌∷◌, Some}
use Rattle.ist_core.specs.TreeTerms.{PlacedLeaf, HasLeaves}
use Rattle.ist_core.specs.WordTerms.{InnerAt}
use Rattle.ist_rule.specs.RuleTerms.{now, GoesOnTo}
use Rattle.ist_build.specs.Reading.{HasSlots, IsReading, before_one}
use Rattle.ist_build.proofs.descent.+go_down.Given as goal

-- bases rise on the way down
abbrev pub decreases-go_down : goal.decreases-go_down
decreases-go_down l = 2 ^ 32 - l.node

-- the leaves below the slots so far were left out, and few words loaded
abbrev pub invariant-loop-index : goal.invariant-loop-index
invariant-loop-index l = GoesOnTo l.fn.token.view l.token.view
    × HasSlots l.token.view l.node l.degree
    × (l.token.view.loaded ≡ l.fn.token.view.loaded + l.loads) × (l.loads ≤ 4 * l.index + 1)
    × ((leaves : List PlacedLeaf)
    → HasLeaves (now l.fn.token.view).pieces (Some (InnerAt l.node)) leaves
    → IsReading leaves (0 ∷ []) (before_one l.i) l.token.view l.node l.index (0 ∷ [])
    (before_one l.skip))
