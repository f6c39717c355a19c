use Rattle.std.proofs.Common.{◌≡◌, ◌+◌, ◌*◌, ◌≤◌, length}
use Rattle.ist_core.specs.WordTerms.{degree}
use Rattle.ist_image.specs.Placing.{rows_after, part_base}
use Rattle.check_state.specs.Laying.{Publishes}
use Rattle.check_state.proofs.opening.+laying.Given as goal

abbrev pub decreases-put_parts : goal.decreases-put_parts
decreases-put_parts l = 2 * length l.pairs.now

abbrev pub decreases-put_tree : goal.decreases-put_tree
decreases-put_tree l = 2 * length l.pairs.now + 1

-- the trees of the parts from part j on are published, and where the previous one ends
abbrev pub invariant-put_parts-loop-j : goal.invariant-put_parts-loop-j
invariant-put_parts-loop-j l = record {
  most : l.j ≤ degree (length l.pairs);
  place : l.at ≡ part_base l.base (length l.pairs) l.j;
  laid : Publishes l.initial.replica l.replica (rows_after l.base l.pairs l.j);
}

abbrev pub decreases-put_parts-loop-j : goal.decreases-put_parts-loop-j
decreases-put_parts-loop-j l = l.j
