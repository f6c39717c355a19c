-- A shot: the pairs that the map had at one position among the changes that a pass has seen.
use Rattle.std.specs.Prelude.{◌≡◌, ℕ, ◌≤◌, List, length, map, Option}
use Rattle.std.specs.List.Sorted.{IsStrictlyIncreasing}
use Rattle.ist_core.specs.declared.commands.Command.{Command}
use Rattle.ist_core.specs.declared.pairs.Pair.{Pair}
use Rattle.ist_core.specs.Changes.{changes_of, map_at}
use Rattle.ist_core.specs.Lawful.{Lawful}
use Rattle.ist_core.specs.Logs.{Log, GoesOn}
use Rattle.ist_core.specs.Map.{Map, map_of, pairs_of}
use Rattle.ist_tree.specs.declared.freezing.Frozen.{Frozen}
use Rattle.ist_tree.specs.Calls.{HasSeenMore, AddsCall}
use Rattle.ist_tree.specs.Faces.{PassFace, changes_seen}
use Rattle.ist_tree.specs.Freezing.{IsFrozenFor, HasFrozenPairs}
use Rattle.ist_tree.specs.RealTime.{StepsIn}

-- the map after this many of the changes that the pass has seen
abbrev pub map_seen : PassFace → ℕ → Map
map_seen p position = map_at (map_of p.tree.start) (changes_seen p) position

-- the shot is of this position, for the pass: it is frozen in what the pass has seen, and its pairs
-- are the map's there, as many as it has keys
pub record IsOf (p : PassFace) (position : ℕ) (shot : Frozen) : Type 0 where
  pub within : position ≤ length (changes_seen p)
  pub frozen : IsFrozenFor p shot
  pub pairs : HasFrozenPairs p.tree.start p.tree.words p.seen shot (pairs_of (map_seen p position))
  pub number : length (pairs_of (map_seen p position)) ≡ shot.keys

-- the shot was taken in the call: its position isn't before what the pass had seen at a step of it
pub record HasTakenShot (p q : PassFace) (shot : Frozen) : Type 0 where
  pub at : Log
  pub step : StepsIn p q at
  pub position : ℕ
  pub fresh : length (changes_of p.tree.start p.tree.words at) ≤ position
  pub is_of : IsOf q position shot

-- these are the pairs of the shot, in what the pass has seen
pub record ArePairsOf (p : PassFace) (shot : Frozen) (pairs : List Pair) : Type 0 where
  pub frozen : IsFrozenFor p shot
  pub has : HasFrozenPairs p.tree.start p.tree.words p.seen shot pairs
  pub number : length pairs ≡ shot.keys
  pub rising : IsStrictlyIncreasing (map (λ pair. pair.key) pairs)

-- the pass looked at a shot: it has seen more, its calls and refusals are as before, and each shot
-- keeps its positions and its pairs
pub record HasOnlyLooked (p q : PassFace) : Type 0 where
  pub seen : HasSeenMore p q
  pub calls : q.calls ≡ p.calls
  pub refused : q.refused ≡ p.refused
  pub frozen : (shot : Frozen) → IsFrozenFor p shot → IsFrozenFor q shot
  pub stays : (position : ℕ) (shot : Frozen) → IsOf p position shot → IsOf q position shot
  pub pairs : (shot : Frozen) (pairs : List Pair) → ArePairsOf p shot pairs → ArePairsOf q shot pairs

-- ---- laws

-- a shot of a position keeps it for each pass that has seen more, and the map there is the same
abbrev pub ShotsStay : Type 0
ShotsStay =
    (p q : PassFace) → q.tree ≡ p.tree → GoesOn p.seen q.seen
    → Lawful q.tree.start q.tree.words q.seen
    → (position : ℕ) (shot : Frozen) → IsOf p position shot
    → IsOf q position shot × (map_seen q position ≡ map_seen p position)

-- each later call of the pass is at the position of the shot or after it
abbrev pub LaterCallsComeAfter : Type 0
LaterCallsComeAfter =
    (p q : PassFace) (position : ℕ) (shot : Frozen) (command : Command) (reply : Option ℕ)
    → IsOf p position shot → (added : AddsCall p q command reply) → position ≤ added.call.position

-- a shot that is frozen stays so for each pass that has seen more, with the same pairs
abbrev pub PairsStay : Type 0
PairsStay =
    (p q : PassFace) → q.tree ≡ p.tree → GoesOn p.seen q.seen
    → Lawful q.tree.start q.tree.words q.seen → (shot : Frozen) → IsFrozenFor p shot
    → IsFrozenFor q shot × ((pairs : List Pair) → ArePairsOf p shot pairs → ArePairsOf q shot pairs)

-- a shot that is frozen has its pairs, and no others
abbrev pub ShotsHavePairs : Type 0
ShotsHavePairs =
    (p : PassFace) → Lawful p.tree.start p.tree.words p.seen → (shot : Frozen) → IsFrozenFor p shot
    → (found : List Pair) × ArePairsOf p shot found
    × ((others : List Pair) → ArePairsOf p shot others → others ≡ found)

-- if it is of a position, these are the pairs that the map has there
abbrev pub PositionsHavePairs : Type 0
PositionsHavePairs =
    (p : PassFace) → Lawful p.tree.start p.tree.words p.seen → (position : ℕ) (shot : Frozen)
    → IsOf p position shot → ArePairsOf p shot (pairs_of (map_seen p position))
