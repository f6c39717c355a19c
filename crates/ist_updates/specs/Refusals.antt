-- Why an update is refused.
use Rattle.std.specs.Prelude.{◌≡◌, ◌≢◌, ℕ, List, Option, Some, None}
use Rattle.ist_core.specs.declared.pairs.Pair.{Pair}
use Rattle.ist_core.specs.declared.ports.Full.{Full}
use Rattle.ist_core.specs.declared.states.RebuildRow.{RebuildRow}
use Rattle.ist_core.specs.Installing.{IsLeafOf}
use Rattle.ist_core.specs.Lawful.{state_of}
use Rattle.ist_core.specs.Links.{WasLedTo}
use Rattle.ist_core.specs.Logs.{GoesOn, Log}
use Rattle.ist_core.specs.Pieces.{Rebuild}
use Rattle.ist_core.specs.Rebuilding.{IsStarted, IsReplaced}
use Rattle.ist_core.specs.References.{LeafAt, ref_of}
use Rattle.ist_core.specs.RowLayout.{leaf_words, pair_words, change_words}
use Rattle.ist_core.specs.Slots.{IsChildFor, SlotHolds}
use Rattle.ist_core.specs.StartLayout.{start}
use Rattle.laws_histories.specs.Searching.{HasPosition}
use Rattle.ist_rule.specs.declared.view.View.{View}
use Rattle.ist_rule.specs.Learning.{now}
use Rattle.ist_rows.specs.Shortage.{RanShort}
use Rattle.ist_rebuild.specs.Helping.{IsAskedFor}
use Rattle.ist_rebuild.specs.Lacking.{LacksNow}
use Rattle.ist_updates.specs.Asking.{Updates}
use Rattle.ist_rule.specs.Going.{WentOn}

-- the key's search leads from the anchor to the node, and from the node to this slot of it
pub record LeadsToSlot (pairs : List Pair) (words : ℕ) (log : Log) (key node index : ℕ) : Type 0 where
  pub led : WasLedTo (start pairs words) log key node
  pub child : IsChildFor (state_of pairs words log) node key index

-- after a log between these, the slot to which the key leads held a leaf of another key
pub record MetOtherLeaf (pairs : List Pair) (words : ℕ) (earlier log : Log) (key : ℕ) : Type 0 where
  pub at : Log
  pub since : GoesOn earlier at
  pub until : GoesOn at log
  pub node : ℕ
  pub index : ℕ
  pub leads : LeadsToSlot pairs words at key node index
  pub word : ℕ
  pub holds : SlotHolds (state_of pairs words at) node index word
  pub base : ℕ
  pub names : ref_of word ≡ Some (LeafAt base)
  pub other : ℕ
  pub leaf : IsLeafOf (state_of pairs words at) base other
  pub differs : other ≢ key

-- the key leads to the slot in which the rebuild was started
pub record IsOnWay (pairs : List Pair) (words : ℕ) (log : Log) (key rebuild : ℕ) : Type 0 where
  pub row : RebuildRow
  pub published : (state_of pairs words log).pieces rebuild ≡ Some (Rebuild row)
  pub leads : LeadsToSlot pairs words log key row.parent row.index

-- this number of words may be asked for between the views, for a row that the caller lacks: a put asks
-- for a leaf and a change, and for a pair row if it met a leaf of another key; a remove asks for a
-- change, if the map had the key since the first view; both ask for what a started rebuild on the
-- key's way needs that wasn't replaced in the first view
pub data IsAskedBy (v w : View) (key : ℕ) : Option ℕ → ℕ → Type 0 where
  for_leaf : {value asked : ℕ} → asked ≡ leaf_words → LacksNow w asked
      → IsAskedBy v w key (Some value) asked
  for_pair : {value asked : ℕ} → asked ≡ pair_words → LacksNow w asked
      → MetOtherLeaf v.start v.words v.log w.log key → IsAskedBy v w key (Some value) asked
  for_put : {value asked : ℕ} → asked ≡ change_words → LacksNow w asked
      → IsAskedBy v w key (Some value) asked
  for_remove : {asked : ℕ} (found : ℕ) → HasPosition v.start v.words v.log w.log key (Some found)
      → asked ≡ change_words → LacksNow w asked → IsAskedBy v w key None asked
  for_rebuild : {value : Option ℕ} {asked : ℕ} (rebuild : ℕ) → IsStarted (now w) rebuild
      → ¬ (IsReplaced (now v) rebuild) → IsOnWay v.start v.words w.log key rebuild
      → IsAskedFor (LacksNow w) (now w) rebuild asked → IsAskedBy v w key value asked

-- too few words were left for what an update asked for
abbrev pub IsUpdateRefused : View → ℕ → Option ℕ → ℕ → Full → View → Type 0
IsUpdateRefused v key value words full w =
    RanShort (WentOn Updates) (IsAskedBy v w key value) v words full w

-- the same for a call that may have begun searches meanwhile
abbrev pub WasRefused : View → ℕ → Option ℕ → ℕ → Full → View → Type 0
WasRefused v key value words full w =
    IsUpdateRefused (record v { searches = w.searches }) key value words full w
