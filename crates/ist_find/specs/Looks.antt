-- One look at a slot, and where a search is after it: what it found, and how many loads it took.
use Rattle.std.specs.Prelude.{◌≡◌, ℕ, ◌+◌, ◌*◌, ◌<◌, ◌≤◌, ◌^◌, List}
use Rattle.ist_core.specs.Arithmetic.{child_count}
use Rattle.ist_core.specs.References.{Ref}
use Rattle.ist_core.specs.RowLayout.{anchor}
use Rattle.ist_core.specs.Slots.{IsChildFor}
use Rattle.ist_math.specs.Guess.{distance}
use Rattle.ist_rule.specs.declared.view.View.{View}
use Rattle.ist_rule.specs.Learning.{now, GoesOnTo, Turned, searching}
use Rattle.ist_find.specs.Searches.{IsRow, HasCome, keys_at, row_cost}
use Rattle.ist_find.specs.Reads.{HasLooked, IsFoundAs, IsReached, LooksFew}
use Rattle.ist_find.specs.Spans.{AllLooked, EndAtEdges, LooksFewOver}

-- ---- the child for a key

-- between both views the child for the key was found among the keys of the row, by loads that are
-- few if it is near the guess: at most 3, as many as it is away from there, and some more; and at
-- most 2 k + 2 and some more if it is less than 2^k away
pub record FindsChild (v w : View) (node key count guess more child loads : ℕ) : Type 0 where
  pub seen : GoesOnTo v w
  pub counted : w.loaded ≡ v.loaded + loads
  pub few : loads ≤ distance guess child + 3 + more
  pub far : (k : ℕ) → distance guess child < 2 ^ k → loads ≤ 2 * k + 2 + more
  pub fits : loads ≤ 2 * count + 3 + more
  pub value : child ≡ child_count (keys_at v node) key
  pub within : child ≤ count

-- ---- a look

-- between both views the caller read the slot of the node for the key, by these loads, which are a
-- look for each key that has this slot
pub record ReadsChild (v w : View) (node key index loads : ℕ) (ref : Ref) : Type 0 where
  pub seen : GoesOnTo v w
  pub child : IsChildFor (now w) node key index
  pub looked : (k : ℕ) (rows : List ℕ) → IsChildFor (now w) node k index → HasCome v k node rows
      → HasLooked w k node index rows ref
  pub found : IsFoundAs w ref
  pub counted : w.loaded ≡ v.loaded + loads
  pub anchor_loads : node ≡ anchor → loads ≤ 4
  pub row_loads : IsRow v node → loads ≤ row_cost v key node
  pub fits : loads < 2 ^ 31

-- the same, if the caller's search for the key has come to the node
pub record LooksAtChild (v w : View) (node key index loads : ℕ) (ref : Ref) : Type 0 where
  pub seen : GoesOnTo v w
  pub looked : (rows : List ℕ) → HasCome v key node rows → HasLooked w key node index rows ref
  pub counted : w.loaded ≡ v.loaded + loads
  pub anchor_loads : node ≡ anchor → loads ≤ 4
  pub row_loads : IsRow v node → loads ≤ row_cost v key node
  pub fits : loads < 2 ^ 31
  pub reached : IsReached w node ref

-- the same at once for all keys of the slot, from `low` to `high`, among those from `first` to
-- `last`
pub record LooksForAll (v w : View) (node key first last index low high : ℕ) (ref : Ref)
    : Type 0 where
  pub seen : GoesOnTo v w
  pub below : low ≤ key
  pub above : key ≤ high
  pub from : first ≤ low
  pub to : high ≤ last
  pub edges : EndAtEdges (now w) low high
  pub looked : (k : ℕ) (rows : List ℕ) → low ≤ k → k ≤ high → HasCome v k node rows
      → HasLooked w k node index rows ref
  pub anchor_loads : node ≡ anchor → w.loaded ≤ v.loaded + 4
  pub row_loads : IsRow v node → w.loaded ≤ v.loaded + row_cost v key node + 3
  pub reached : IsReached w node ref

-- ---- where a search is

-- this many loads were made on the way to the node, few enough to be counted
pub record HasSpent (v w : View) (node loads : ℕ) : Type 0 where
  pub count : w.loaded ≡ v.loaded + loads
  pub few : loads ≤ node * 2 ^ 31
  pub low : node < 2 ^ 28

-- the caller began a search for the key at the first view, and has looked at this slot of the node
-- last
pub record SearchIsAt (v w : View) (key node index loads : ℕ) (ref : Ref) : Type 0 where
  pub begun : View
  pub turned : Turned v (searching v) begun
  pub seen : GoesOnTo begun w
  pub first : View
  pub few_first : first.loaded ≤ v.loaded + 5
  pub looks : LooksFew first w key node index ref
  pub reached : IsReached w node ref
  pub spent : HasSpent v w node loads

-- the same from the first view on, at once for all keys of the slot
pub record SpanIsAt (v w : View) (key node index low high : ℕ) (ref : Ref) : Type 0 where
  pub seen : GoesOnTo v w
  pub first : View
  pub few_first : first.loaded ≤ v.loaded + 4
  pub below : low ≤ key
  pub above : key ≤ high
  pub edges : EndAtEdges (now w) low high
  pub looked : AllLooked w low high node index ref
  pub looks : LooksFewOver first w key node index ref
  pub reached : IsReached w node ref
