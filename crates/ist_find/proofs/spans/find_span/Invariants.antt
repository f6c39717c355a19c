use Rattle.std.proofs.Common.{◌-◌}
use Rattle.ist_layout.specs.Meanings.{ref_meant}
use Rattle.ist_find.specs.Looks.{SpanIsAt}
use Rattle.ist_find.proofs.spans.find_span.Given as goal

-- each turn made only loads, few of them, and looked at a slot of a node that the search for each key
-- between has reached
abbrev pub invariant-loop-look : goal.invariant-loop-look
invariant-loop-look l =
    SpanIsAt l.fn.token.view l.token.view l.key l.node l.look.index l.look.ends.first
    l.look.ends.last (ref_meant l.look.reference)

-- each row lies above the one before it
abbrev pub decreases-loop-look : goal.decreases-loop-look
decreases-loop-look l = l.token.view.words - l.node
