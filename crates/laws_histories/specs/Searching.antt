-- The search for a key by its loads, each made at its own moment, and its place among the changes.
use Rattle.std.specs.Prelude.{◌≡◌, ℕ, ◌+◌, ◌<◌, ◌≤◌, ◌⊎◌, ◌≢◌, false, List, length, Option, Some, None}
use Rattle.std.specs.FinMap as fin
use Rattle.ist_core.specs.declared.loads.Load.{Load}
use Rattle.ist_core.specs.declared.commands.Command.{Command}
use Rattle.ist_core.specs.declared.calls.Call.{Call}
use Rattle.ist_core.specs.declared.pairs.Pair.{Pair}
use Rattle.ist_core.specs.declared.states.InnerRow.{InnerRow}
use Rattle.ist_core.specs.RowLayout.{anchor, leaf_key_offset, leaf_value_offset, change_decision_offset, change_from_offset, change_to_offset, rebuild_target_offset}
use Rattle.ist_core.specs.Map.{map_of, key_of}
use Rattle.ist_core.specs.References.{Ref, Empty, LeafAt, InnerAt, ChangeAt, RebuildAt, ref_of}
use Rattle.ist_core.specs.Statuses.{decided_yes}
use Rattle.ist_core.specs.Pieces.{Inner}
use Rattle.ist_core.specs.StartLayout.{start}
use Rattle.ist_core.specs.Logs.{Log, GoesOn}
use Rattle.ist_core.specs.Slots.{SlotHolds, IsChildFor}
use Rattle.ist_core.specs.Links.{WasLinked, WasLedTo}
use Rattle.ist_core.specs.Writing.{place_of_slot}
use Rattle.ist_core.specs.Changes.{changes_of, map_at}
use Rattle.ist_core.specs.Lawful.{Lawful, state_of}
use Rattle.ist_core.specs.Standing.{makes_entry}
use Rattle.laws_histories.specs.Calls.{MadeNoEntry, HasCalls, IsAdded}
use Rattle.laws_histories.specs.Loads.{log_at, IsLoad}

-- ---- one look at a slot

-- what the word of a slot reads as once a change is read away, by loads made after the slot's: the
-- word itself, or the side of its change that the decision leaves. When the load that counts was
-- made, the log had `last` events
pub data ReadsSide (pairs : List Pair) (words : ℕ) (log : Log) (slot : Load) : ℕ → ℕ → Type 0 where
  no_change : ((base : ℕ) → ref_of slot.word ≢ Some (ChangeAt base))
      → ReadsSide pairs words log slot slot.word slot.length
  by_to : (base : ℕ) (decision side : Load) → ref_of slot.word ≡ Some (ChangeAt base)
      → IsLoad pairs words log (base + change_decision_offset) slot.length decision
      → decision.word ≡ decided_yes
      → IsLoad pairs words log (base + change_to_offset) slot.length side
      → ReadsSide pairs words log slot side.word decision.length
  by_from : (base : ℕ) (decision side : Load) → ref_of slot.word ≡ Some (ChangeAt base)
      → IsLoad pairs words log (base + change_decision_offset) slot.length decision
      → decision.word ≢ decided_yes
      → IsLoad pairs words log (base + change_from_offset) slot.length side
      → ReadsSide pairs words log slot side.word decision.length

-- what that word reads as once a rebuild is read away: itself, or the rebuild's target
pub data ReadsTarget (pairs : List Pair) (words : ℕ) (log : Log) (least word : ℕ)
    : Ref → Type 0 where
  no_rebuild : (ref : Ref) → ref_of word ≡ Some ref → ((base : ℕ) → ref ≢ RebuildAt base)
      → ReadsTarget pairs words log least word ref
  by_target : (base : ℕ) (target : Load) → ref_of word ≡ Some (RebuildAt base)
      → IsLoad pairs words log (base + rebuild_target_offset) least target
      → ReadsTarget pairs words log least word (InnerAt target.word)

-- the slot of the node for the key was loaded when the log had at least `least` events, and read as
-- the reference by loads made after that. When the last load that counts was made, the log had
-- `last` events
pub record LooksAt (pairs : List Pair) (words : ℕ) (log : Log) (key least last node : ℕ)
    (ref : Ref) : Type 0 where
  pub slot : Load
  pub index : ℕ
  pub index_is : IsChildFor (state_of pairs words (log_at log slot.length)) node key index
  pub is_load : let t = state_of pairs words (log_at log slot.length) in
      IsLoad pairs words log (place_of_slot t node index) least slot
  pub side : ℕ
  pub side_is : ReadsSide pairs words log slot side last
  pub ref_is : ReadsTarget pairs words log last side ref

-- ---- a search

-- a search for the key that began at the anchor when the log had `began` events reached the node
-- when it had `last`
pub data ComesTo (pairs : List Pair) (words : ℕ) (log : Log) (key began : ℕ) : ℕ → ℕ → Type 0 where
  begins : ComesTo pairs words log key began began anchor
  goes_down : {least last node child : ℕ} → ComesTo pairs words log key began least node
      → LooksAt pairs words log key least last node (InnerAt child)
      → ComesTo pairs words log key began last child

-- an empty slot gives the key no value, nor does a leaf of another key; a leaf of the key gives its
-- own value
pub data ReadsValue (pairs : List Pair) (words : ℕ) (log : Log) (key least : ℕ)
    : Ref → Option ℕ → Type 0 where
  of_nothing : ReadsValue pairs words log key least Empty None
  of_other : {base : ℕ} (load : Load) → IsLoad pairs words log (base + leaf_key_offset) least load
      → load.word ≢ key → ReadsValue pairs words log key least (LeafAt base) None
  of_key : {base : ℕ} (load value : Load)
      → IsLoad pairs words log (base + leaf_key_offset) least load → load.word ≡ key
      → IsLoad pairs words log (base + leaf_value_offset) least value
      → ReadsValue pairs words log key least (LeafAt base) (Some value.word)

-- the search that began when the log had `began` events ended at a slot of the node, with the value
-- or with none
pub record Searched (pairs : List Pair) (words : ℕ) (log : Log) (key began node : ℕ)
    (value : Option ℕ) : Type 0 where
  pub least : ℕ
  pub last : ℕ
  pub since : began ≤ length log
  pub comes : ComesTo pairs words log key began least node
  pub ref : Ref
  pub look : LooksAt pairs words log key least last node ref
  pub value_is : ReadsValue pairs words log key last ref value

-- ---- in a longer log

-- a look at a slot is also one in a longer log
abbrev pub LooksGoOn : Type 0
LooksGoOn =
    (pairs : List Pair) (words : ℕ) (log longer : Log) → GoesOn log longer
    → (key least last node : ℕ) (ref : Ref) → LooksAt pairs words log key least last node ref
    → LooksAt pairs words longer key least last node ref

-- a search that reached a node reached it in a longer log too
abbrev pub SearchesComeOn : Type 0
SearchesComeOn =
    (pairs : List Pair) (words : ℕ) (log longer : Log) → GoesOn log longer
    → (key began last node : ℕ) → ComesTo pairs words log key began last node
    → ComesTo pairs words longer key began last node

-- a search that ended with a value ended with it in a longer log too
abbrev pub SearchesEndOn : Type 0
SearchesEndOn =
    (pairs : List Pair) (words : ℕ) (log longer : Log) → GoesOn log longer
    → (key began node : ℕ) (value : Option ℕ) → Searched pairs words log key began node value
    → Searched pairs words longer key began node value

-- ---- what a search finds

-- the value is what the map has for the key after some number of changes, no fewer than the earlier
-- log has and no more than this one has
pub record HasPosition (pairs : List Pair) (words : ℕ) (earlier log : Log) (key : ℕ)
    (value : Option ℕ) : Type 0 where
  pub position : ℕ
  pub from : length (changes_of pairs words earlier) ≤ position
  pub to : position ≤ length (changes_of pairs words log)
  pub value_is : value ≡ fin.get (map_at (map_of pairs) (changes_of pairs words log) position) key

-- a search has a position, not before the changes that the log had when it began
abbrev pub SearchesHaveAPosition : Type 0
SearchesHaveAPosition =
    (pairs : List Pair) (words : ℕ) (log : Log) → Lawful pairs words log
    → (key began node : ℕ) (value : Option ℕ) → Searched pairs words log key began node value
    → HasPosition pairs words (log_at log began) log key value

-- a call that changes nothing, with the reply that a search found, is added to the calls of its
-- pass and is fresh
pub record SearchIsAdded (pairs : List Pair) (words : ℕ) (seen log : Log) (number stamp : ℕ)
    (calls : List Call) (command : Command) (value : Option ℕ) : Type 0 where
  pub call : Call
  pub command_is : call.command ≡ command
  pub reply_is : call.reply ≡ value
  pub stamp_is : call.stamp ≡ stamp + 1
  pub added : IsAdded pairs words seen log number stamp calls call

-- such a call is added if the search began after all that the pass had seen, and the pass made no
-- entry meanwhile
abbrev pub SearchesStand : Type 0
SearchesStand =
    (pairs : List Pair) (words : ℕ) (seen log : Log) → Lawful pairs words log
    → (number stamp : ℕ) (calls : List Call) → HasCalls pairs words seen number stamp calls
    → MadeNoEntry pairs words number seen log
    → (began node : ℕ) → GoesOn seen (log_at log began)
    → (command : Command) (value : Option ℕ) → makes_entry command value ≡ false
    → Searched pairs words log (key_of command) began node value
    → SearchIsAdded pairs words seen log number stamp calls command value

-- ---- the nodes on the way

-- the word that was loaded from the place of a node's slot for the key is what the slot held
abbrev pub SlotLoadsHold : Type 0
SlotLoadsHold =
    (pairs : List Pair) (words : ℕ) (log : Log) → Lawful pairs words log
    → (key least node index : ℕ) (slot : Load)
    → IsChildFor (state_of pairs words (log_at log slot.length)) node key index
    → IsLoad pairs words log
    (place_of_slot (state_of pairs words (log_at log slot.length)) node index) least slot
    → SlotHolds (state_of pairs words (log_at log slot.length)) node index slot.word

-- the search for the key led to the node at some moment, so the node was linked; and it is the
-- anchor, or an inner row that was published when the log had `last` events
pub record WasMet (pairs : List Pair) (words : ℕ) (log : Log) (key last node : ℕ) : Type 0 where
  pub led : WasLedTo (start pairs words) log key node
  pub linked : WasLinked (start pairs words) log node
  pub published : (node ≡ anchor)
      ⊎ ((r : InnerRow) × ((state_of pairs words (log_at log last)).pieces node ≡ Some (Inner r)))

-- each node that a search reached was met in this sense
abbrev pub NodesWereMet : Type 0
NodesWereMet =
    (pairs : List Pair) (words : ℕ) (log : Log) → Lawful pairs words log
    → (key began last node : ℕ) → began ≤ length log → ComesTo pairs words log key began last node
    → WasMet pairs words log key last node

-- each look of a search leads to a greater base, so a search ends
abbrev pub LooksGoUp : Type 0
LooksGoUp =
    (pairs : List Pair) (words : ℕ) (log : Log) → Lawful pairs words log
    → (key began least last node child : ℕ) → began ≤ length log
    → ComesTo pairs words log key began least node
    → LooksAt pairs words log key least last node (InnerAt child) → node < child
