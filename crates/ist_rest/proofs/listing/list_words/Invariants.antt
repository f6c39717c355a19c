use Rattle.std.proofs.Common.{◌≤◌}
use Rattle.ist_rest.specs.Steps.{work_left}
use Rattle.ist_rest.specs.Listing.{HasListed}
use Rattle.ist_rest.proofs.listing.list_words.Given as goal

abbrev pub invariant-loop-slot : goal.invariant-loop-slot
invariant-loop-slot g l = record {
  interval : l.first ≤ l.last;
  come : HasListed (g.W.WordList.list l.words) l.first l.last l.left.items l.found.items;
}

abbrev pub decreases-loop-slot : goal.decreases-loop-slot
decreases-loop-slot g l = work_left (g.W.WordList.list l.words) l.left.items
