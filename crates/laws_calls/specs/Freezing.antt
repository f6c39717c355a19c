-- The law over lawful logs on the tree that remains after a freeze. `src/rows.rt` names it.
use Rattle.std.specs.Prelude.{List, Some, length, map, ℕ, ◌≡◌, ◌≤◌}
use Rattle.ist_core.specs.declared.pairs.Pair.{Pair}
use Rattle.ist_core.specs.Changes.{changes_of, map_at}
use Rattle.ist_core.specs.Lawful.{Lawful, state_of}
use Rattle.ist_core.specs.Leaves.{HasLeaves, PlacedLeaf, pair_of}
use Rattle.ist_core.specs.Links.{IsChild}
use Rattle.ist_core.specs.Logs.{GoesOn, Log}
use Rattle.ist_core.specs.Map.{map_of, pairs_of}
use Rattle.ist_core.specs.References.{InnerAt}
use Rattle.ist_core.specs.RowLayout.{anchor}
use Rattle.laws_links.specs.Linking.{IsFinished}

-- these are the pairs of the map after some number of changes, no fewer than the earlier log has
-- and no more than this one has
pub record WereThePairs (pairs : List Pair) (words : ℕ) (earlier log : Log)
    (found : List Pair) : Type 0 where
  pub position : ℕ
  pub from : length (changes_of pairs words earlier) ≤ position
  pub to : position ≤ length (changes_of pairs words log)
  pub pairs_are : found ≡ pairs_of (map_at (map_of pairs) (changes_of pairs words log) position)

-- if a row was the anchor's child in an earlier log and is finished, its leaves are such pairs
abbrev pub FrozenRowsHaveThePairs : Type 0
FrozenRowsHaveThePairs =
    (pairs : List Pair) (words : ℕ) (earlier log : Log) → Lawful pairs words log
    → GoesOn earlier log → (node i : ℕ) (leaves : List PlacedLeaf)
    → IsChild (state_of pairs words earlier) anchor i node
    → IsFinished (state_of pairs words log) node
    → HasLeaves (state_of pairs words log).pieces (Some (InnerAt node)) leaves
    → WereThePairs pairs words earlier log (map pair_of leaves)
