use Rattle.std.proofs.Common.{◌≡◌, ◌≤◌, ◌++◌, reverse, slice_range}
use Rattle.ist_rest.specs.WordRows.{row_slots}
use Rattle.ist_rest.specs.Steps.{slots_of}
use Rattle.ist_rest.proofs.listing.push_between.Given as goal

abbrev pub invariant-loop-at : goal.invariant-loop-at
invariant-loop-at g l = let slots = row_slots (g.W.WordList.list l.words) l.base in record {
  low : l.from ≤ l.at;
  high : l.at ≤ l.to;
  pushed : l.left.items ≡ l.initial.left.items ++ reverse
      (slots_of l.base (slice_range slots l.at l.to));
}

abbrev pub decreases-loop-at : goal.decreases-loop-at
decreases-loop-at g l = l.at
