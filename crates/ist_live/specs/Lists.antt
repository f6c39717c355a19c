-- The pairs between two keys, as a pass reads them.
use Rattle.std.specs.Prelude.{ℕ, ◌+◌, ◌<◌, ◌≤◌, ◌==◌, if◌then◌else◌, List, [], ◌∷◌, map, Option, Some, None}
use Rattle.std.specs.List.Sorted.{IsStrictlyIncreasing}
use Rattle.ist_core.specs.declared.pairs.Pair.{Pair}
use Rattle.ist_core.specs.Elements.{Among, Each}
use Rattle.ist_core.specs.Logs.{Log, GoesOn}
use Rattle.ist_core.specs.RowLayout.{anchor}
use Rattle.ist_tree.specs.Faces.{PassFace}
use Rattle.ist_tree.specs.RealTime.{StepsIn}
use Rattle.ist_find.specs.Sweeps.{Swept}
use Rattle.ist_live.specs.Reading.{HasOnlyRead, Had, HadSince}

-- the value that the first of the pairs with this key gives it
abbrev pub value_among : List Pair → ℕ → Option ℕ
value_among [] key = None
value_among (pair ∷ pairs) key = if pair.key == key then Some pair.value else value_among pairs key

-- the pairs lie between the two keys in strictly increasing order, and each key between them had what the
-- pairs give it at a position of its own
pub record AreLive (p q : PassFace) (first last : ℕ) (pairs : List Pair) : Type 0 where
  pub rise : IsStrictlyIncreasing (map (λ pair. pair.key) pairs)
  pub within : Each (λ pair. (first ≤ pair.key) × (pair.key ≤ last)) pairs
  pub values : (k : ℕ) → first ≤ k → k ≤ last → Had p q k (value_among pairs k)

-- the pass read all of these keys upwards, slot after slot, and found the pairs. Each key had what the
-- pairs give it at a position of its own, since a step of this call, and no earlier than the keys below it.
-- It made few loads: one, and those that the sweep says
pub record HasListedLive (p q : PassFace) (first last : ℕ) (pairs : List Pair) : Type 0 where
  pub following : ℕ
  pub past : last < following
  pub began : Log
  pub step : first ≤ last → StepsIn p q began
  pub at : Log
  pub until : GoesOn at q.seen
  pub row : ℕ
  pub loads : ℕ
  pub few : q.loaded ≤ p.loaded + 1 + loads
  pub swept : Swept p.tree.start p.tree.words first anchor began at following row loads pairs

-- there is a moment between both such that the first pair was in the map at a position before it, and the
-- second at one after it
pub record HadInTurn (p q : PassFace) (one other : Pair) : Type 0 where
  pub between : PassFace
  pub before : HasOnlyRead p between
  pub after : HasOnlyRead between q
  pub one_had : HadSince p between one.key (Some one.value)
  pub other_had : HadSince between q other.key (Some other.value)

-- time never goes back along the keys: so it is of any two of the pairs
abbrev pub AreInTurn : PassFace → PassFace → List Pair → Type 0
AreInTurn p q pairs =
    (one other : Pair) → Among one pairs → Among other pairs → one.key < other.key
    → HadInTurn p q one other
