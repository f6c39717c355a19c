use Rattle.std.proofs.Common.{◌<◌, ◌+◌, get_or}
use Rattle.ist_rest.specs.WordRows.{row_keys}
use Rattle.ist_rest.proofs.children.walk_down.Given as goal

abbrev pub invariant-loop-at : goal.invariant-loop-at
invariant-loop-at g l = record {
  within : l.at < l.degree;
  above : l.at + 1 < l.degree → l.key < get_or (row_keys (g.W.WordList.list l.words) l.base) l.at 0;
}

abbrev pub decreases-loop-at : goal.decreases-loop-at
decreases-loop-at g l = l.at
