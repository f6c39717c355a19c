-- A search for all keys between two: how far it has come, and what it finds for each key.
use Rattle.std.specs.Prelude.{◌≡◌, ℕ, ◌+◌, ◌*◌, ◌^◌, ◌<◌, ◌≤◌, ◌==◌, if◌then◌else◌, List, length, Option, Some, None}
use Rattle.ist_core.specs.declared.pairs.Pair.{Pair}
use Rattle.ist_core.specs.declared.states.InnerRow.{InnerRow}
use Rattle.ist_core.specs.declared.states.LeafRow.{LeafRow}
use Rattle.ist_core.specs.Elements.{Among}
use Rattle.ist_core.specs.Pieces.{Inner, Leaf}
use Rattle.ist_core.specs.References.{Ref}
use Rattle.ist_core.specs.Snapshots.{Snapshot}
use Rattle.ist_rule.specs.declared.view.View.{View}
use Rattle.laws_calls.specs.Walking.{IsChainOf}
use Rattle.ist_find.specs.Searches.{Came, HasFound, cost_of}
use Rattle.ist_find.specs.Reads.{HasLooked}

-- the value that the pair gives the key: its value if it has this key, and otherwise none
abbrev pub pair_value : Option Pair → ℕ → Option ℕ
pair_value (Some pair) key = if pair.key == key then Some pair.value else None
pair_value None key = None

-- the leaf with this base has this pair
pub record IsPairOf (t : Snapshot) (base : ℕ) (pair : Pair) : Type 0 where
  pub row : LeafRow
  pub published : t.pieces base ≡ Some (Leaf row)
  pub key_is : pair.key ≡ row.key
  pub value_is : pair.value ≡ row.value

-- the caller's search for each key between these has come to the node
abbrev pub AllCome : View → ℕ → ℕ → ℕ → Type 0
AllCome v first last node = (k : ℕ) → first ≤ k → k ≤ last → Came v k node

-- the caller's search for each key between these has looked at this slot of the node
abbrev pub AllLooked : View → ℕ → ℕ → ℕ → ℕ → Ref → Type 0
AllLooked v first last node index ref =
    (k : ℕ) → first ≤ k → k ≤ last → (rows : List ℕ) × HasLooked v k node index rows ref

-- the caller's search for the key has looked at the slot, with no more loads since the first view
-- than its rows cost, plus three for each row
pub record LooksFewOver (v w : View) (key node index : ℕ) (ref : Ref) : Type 0 where
  pub rows : List ℕ
  pub looked : HasLooked w key node index rows ref
  pub few : w.loaded ≤ v.loaded + cost_of w key rows + 3 * length rows

-- the search ended with this value for the key, and made few loads: at most 9 plus, for each row
-- on the chain of its node, the row's cost and 3
pub record HasFewSpanLoads (v w : View) (key : ℕ) (value : Option ℕ) : Type 0 where
  pub node : ℕ
  pub index : ℕ
  pub found : HasFound w key node index value
  pub rows : List ℕ
  pub chain : IsChainOf w.start w.words w.log node rows
  pub few : w.loaded ≤ v.loaded + 9 + cost_of w key rows + 3 * length rows

-- the key is one of the keys of a published inner row: two slots meet there
pub record IsEdge (t : Snapshot) (key : ℕ) : Type 0 where
  pub base : ℕ
  pub row : InnerRow
  pub published : t.pieces base ≡ Some (Inner row)
  pub among : Among key row.keys

-- at each end, the range from the first key to the last stops at an edge, unless no key lies beyond
abbrev pub EndAtEdges : Snapshot → ℕ → ℕ → Type 0
EndAtEdges t first last =
    (0 < first → IsEdge t first) × (last + 1 < 2 ^ 64 → IsEdge t (last + 1))
