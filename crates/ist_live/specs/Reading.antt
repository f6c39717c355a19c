-- Reading keys in order: one span after another, each at a later moment of the pass.
use Rattle.std.specs.Prelude.{◌≡◌, ℕ, ◌+◌, ◌<◌, ◌≤◌, ◌⊎◌, List, [], ◌++◌, Option, None, IfSome}
use Rattle.ist_core.specs.declared.pairs.Pair.{Pair}
use Rattle.ist_core.specs.Logs.{Log}
use Rattle.laws_histories.specs.Searching.{HasPosition}
use Rattle.ist_find.specs.Spans.{pair_value, IsEdge}
use Rattle.ist_find.specs.Sweeps.{one_of}
use Rattle.ist_tree.specs.Calls.{HasSeenMore}
use Rattle.ist_tree.specs.Faces.{PassFace}
use Rattle.ist_tree.specs.RealTime.{StepsIn}
use Rattle.ist_tree.specs.Spans.{HasLoadedFewOver, state_seen}

-- the pass has seen more, and is otherwise unchanged: a read is no call of the map
pub record HasOnlyRead (p q : PassFace) : Type 0 where
  pub seen : HasSeenMore p q
  pub calls : q.calls ≡ p.calls
  pub stamp : q.stamp ≡ p.stamp
  pub refused : q.refused ≡ p.refused

-- between these two moments of the pass, the key had this value, or none, at some position
abbrev pub HadSince : PassFace → PassFace → ℕ → Option ℕ → Type 0
HadSince p q key value = HasPosition p.tree.start p.tree.words p.seen q.seen key value

-- the key had this value, or none, at some position since a step of the pass between these moments
pub record Had (p q : PassFace) (key : ℕ) (value : Option ℕ) : Type 0 where
  pub at : Log
  pub step : StepsIn p q at
  pub position : HasPosition p.tree.start p.tree.words at q.seen key value

-- each key from the first to before `following` had none, at a position of its own
abbrev pub HadNone : PassFace → PassFace → ℕ → ℕ → Type 0
HadNone p q first following = (k : ℕ) → first ≤ k → k < following → Had p q k None

-- ---- a span

-- by one search for the key that was asked for, the pass read all keys from the first to before `following`:
-- each had what the pair gives it at a position of its own
pub record HasReadSpan (p q : PassFace) (asked first following : ℕ) (pair : Option Pair) : Type 0 where
  pub read : HasOnlyRead p q
  pub low : first ≤ asked
  pub high : asked < following
  pub within : IfSome pair (λ x. (first ≤ x.key) × (x.key < following))
  pub values : (k : ℕ) → first ≤ k → k < following → Had p q k (pair_value pair k)
  pub loads : HasLoadedFewOver p q asked (pair_value pair asked)

-- a read begins at the key that its caller named, or at an edge of the tree
abbrev pub ReadsFrom : PassFace → ℕ → ℕ → Type 0
ReadsFrom p named key = (key ≡ named) ⊎ IsEdge (state_seen p) key

-- ---- span after span

-- the pass read the keys from the first to before `following` upwards, one span after another, and found
-- these pairs. What a later span tells isn't older than what an earlier one told
pub data ReadsUp (p : PassFace) (first : ℕ) : PassFace → ℕ → List Pair → Type 0 where
  none_up : ReadsUp p first p first []
  span_up : {m q : PassFace} {from following : ℕ} {pairs : List Pair} (pair : Option Pair)
      → ReadsUp p first m from pairs → ReadsFrom m first from
      → HasReadSpan m q from from following pair → ReadsUp p first q following (pairs ++ one_of pair)

-- the pass read the keys from `first` to before `following` downwards, one span after another
pub data ReadsDown (p : PassFace) (following : ℕ) : PassFace → ℕ → List Pair → Type 0 where
  none_down : ReadsDown p following p following []
  span_down : {m q : PassFace} {from first : ℕ} {pairs : List Pair} (pair : Option Pair)
      → ReadsDown p following m (from + 1) pairs → ReadsFrom m following (from + 1)
      → HasReadSpan m q from first (from + 1) pair
      → ReadsDown p following q first (one_of pair ++ pairs)
