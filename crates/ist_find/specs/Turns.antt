-- Slot after slot of one node: where a sweep is, what it read in a slot, and what the slot's keys
-- gave.
use Rattle.std.specs.Prelude.{◌≡◌, ◌≢◌, ℕ, ◌+◌, ◌<◌, ◌≤◌, ◌⊎◌, List, ◌++◌, length, Option, IfSome}
use Rattle.ist_core.specs.declared.pairs.Pair.{Pair}
use Rattle.ist_core.specs.Elements.{Among}
use Rattle.ist_core.specs.References.{Ref, InnerAt}
use Rattle.ist_core.specs.RowLayout.{anchor}
use Rattle.ist_core.specs.Slots.{IsChildFor}
use Rattle.ist_rule.specs.declared.view.View.{View}
use Rattle.ist_rule.specs.Learning.{now, GoesOnTo}
use Rattle.ist_rule.specs.Watching.{IsNode}
use Rattle.ist_find.specs.Searches.{keys_at}
use Rattle.ist_find.specs.Reads.{IsFoundAs, IsEnd, TellsValue}
use Rattle.ist_find.specs.Spans.{pair_value}
use Rattle.ist_find.specs.Sweeps.{WereLed, HasSwept, LookedSince, starting, one_of}

-- ---- a slot

-- this is the slot of the node for the key, and the node has this many keys
pub record IsSlotForKey (v : View) (node key index count : ℕ) : Type 0 where
  pub node_is : IsNode (now v) node
  pub count_is : count ≡ length (keys_at v node)
  pub child : IsChildFor (now v) node key index

-- the keys from this one to the end share the slot. If there are more up to the last key, the next
-- one has the next slot
pub record SlotEnds (v : View) (node key end last index count : ℕ) : Type 0 where
  pub some : key ≤ end
  pub top : end ≤ last
  pub share : (k : ℕ) → key ≤ k → k ≤ end → IsChildFor (now v) node k index
  pub edge : end < last → Among (end + 1) (keys_at v node)
  pub next : end < last → IsChildFor (now v) node (end + 1) (index + 1)
  pub within : end < last → index < count

-- between both views the caller read the slot, by loads that are a look for each of its keys, and
-- saw where these end
pub record HasReadSlot (v w : View) (node key end last index count : ℕ) (ref : Ref) : Type 0 where
  pub seen : GoesOnTo v w
  pub loads : w.loaded ≤ v.loaded + 5
  pub ends : SlotEnds v node key end last index count
  pub looked : (k least : ℕ) → least ≤ length v.log → IsChildFor (now v) node k index
      → LookedSince w k least node index ref
  pub found : IsFoundAs w ref

-- the slot's keys led to the row that it holds, which lies above the node and isn't the anchor, or
-- else it holds an end
pub record LeadsBelow (v : View) (node first last : ℕ) (ref : Ref) : Type 0 where
  pub inner : (base : ℕ) → ref ≡ InnerAt base
      → (node < base) × (base ≢ anchor) × WereLed v first last base
  pub end : ((base : ℕ) → ref ≢ InnerAt base) → IsEnd v ref

-- ---- what its keys gave

-- between both views the caller read the pair of an end, and appended it if its key is one of these
pub record HasReadEnd (v w : View) (first last : ℕ) (ref : Ref) (old new : List Pair) : Type 0 where
  pub loads : w.loaded ≤ v.loaded + 2
  pub pair : Option Pair
  pub tells : (k : ℕ) → TellsValue v w k ref (pair_value pair k)
  pub own : Option Pair
  pub within : IfSome own (λ p. (first ≤ p.key) × (p.key ≤ last))
  pub same : (k : ℕ) → first ≤ k → k ≤ last → pair_value own k ≡ pair_value pair k
  pub pushed : new ≡ old ++ one_of own

-- between both views the caller swept the keys of a slot that reads as the reference, and appended
-- the pairs
pub data HasSweptSlot (v w : View) (first last : ℕ) (ref : Ref) (old new : List Pair) : Type 0 where
  row_below : (base : ℕ) → ref ≡ InnerAt base
      → HasSwept v w first (last + 1) last base 0 (starting v base first) old new
      → HasSweptSlot v w first last ref old new
  end_there : HasReadEnd v w first last ref old new → HasSweptSlot v w first last ref old new

-- ---- where a sweep of a node is

-- since the first view the keys below this one were swept, and it is the first one or a key of the
-- row
pub record HasSweptTo (v w : View) (node first key last index count spent : ℕ) (old new : List Pair)
    : Type 0 where
  pub seen : GoesOnTo v w
  pub at : IsSlotForKey w node key index count
  pub from : first ≤ key
  pub some : key ≤ last
  pub begins : (key ≡ first) ⊎ Among key (keys_at w node)
  pub led : WereLed w first last node
  pub swept : HasSwept v w first key last node node spent old new
