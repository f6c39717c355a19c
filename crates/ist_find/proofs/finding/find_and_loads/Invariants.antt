use Rattle.std.proofs.Common.{◌-◌}
use Rattle.ist_layout.specs.Meanings.{ref_meant}
use Rattle.ist_find.specs.Looks.{SearchIsAt}
use Rattle.ist_find.proofs.finding.find_and_loads.Given as goal

-- each turn made only loads, few and counted, and looked at a slot of a node that the search reached
abbrev pub invariant-loop-look : goal.invariant-loop-look
invariant-loop-look l =
    SearchIsAt l.fn.token.view l.token.view l.key l.node l.look.value.index l.loads
    (ref_meant l.look.value.reference)

-- each row lies above the one before it
abbrev pub decreases-loop-look : goal.decreases-loop-look
decreases-loop-look l = l.token.view.words - l.node
