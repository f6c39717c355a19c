use Rattle.std.proofs.Common.{◌≡◌, ◌+◌, ◌*◌, ◌-◌, ◌^◌}
use Rattle.ist_core.specs.WordTerms.{anchor}
use Rattle.ist_rule.specs.RuleTerms.{MayWalk}
use Rattle.ist_find.specs.Sweeps.{starting}
use Rattle.ist_find.specs.Turns.{HasSweptTo}
use Rattle.ist_find.proofs.sweeping.+sweeping.Given as goal

-- bases rise on the way down
abbrev pub decreases-sweep_slot : goal.decreases-sweep_slot
decreases-sweep_slot l = 2 * (2 ^ 32 - l.node)

abbrev pub decreases-sweep_below : goal.decreases-sweep_below
decreases-sweep_below l = 2 * (2 ^ 32 - l.node) + 1

-- the keys below the next one were swept
abbrev pub invariant-sweep_below-slots : goal.invariant-sweep_below-slots
invariant-sweep_below-slots l = record {
  here : HasSweptTo l.fn.token.view l.token.view l.node l.first l.from l.last l.place.index l.place.count
      (starting l.fn.token.view l.node l.first) l.fn.found.items l.found.items;
  top : l.node ≡ anchor → MayWalk l.token.view;
}

-- the next key rises
abbrev pub decreases-sweep_below-slots : goal.decreases-sweep_below-slots
decreases-sweep_below-slots l = l.last - l.from
