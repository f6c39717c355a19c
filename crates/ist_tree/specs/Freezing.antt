-- A whole tree that was frozen: when it is so, which pairs it has, and why a freeze is refused.
use Rattle.std.specs.Prelude.{◌≡◌, ℕ, ◌+◌, ◌*◌, ◌≤◌, ◌⊎◌, List, map, length, slice_get, Some}
use Rattle.std.specs.List.{sum}
use Rattle.std.specs.List.Sorted.{IsStrictlyIncreasing}
use Rattle.ist_core.specs.declared.pairs.Pair.{Pair}
use Rattle.ist_core.specs.declared.ports.Full.{Full}
use Rattle.ist_core.specs.declared.states.LeafRow.{LeafRow}
use Rattle.ist_core.specs.Lawful.{Lawful, state_of}
use Rattle.ist_core.specs.Leaves.{HasLeaves, PlacedLeaf, pair_of}
use Rattle.ist_core.specs.Logs.{Log, GoesOn}
use Rattle.ist_core.specs.Pieces.{Leaf}
use Rattle.ist_core.specs.Marking.{HasTarget}
use Rattle.ist_core.specs.Rebuilding.{IsFinishedWith, IsReplaced, IsStarted}
use Rattle.ist_core.specs.References.{Ref, Empty, LeafAt, InnerAt, word_of}
use Rattle.ist_core.specs.RowLayout.{anchor, change_words, rebuild_words}
use Rattle.ist_core.specs.Shapes.{shape}
use Rattle.ist_core.specs.Slots.{SlotHolds}
use Rattle.ist_core.specs.Snapshots.{Snapshot}
use Rattle.laws_calls.specs.Freezing.{WereThePairs}
use Rattle.ist_layout.specs.Meanings.{ref_meant}
use Rattle.ist_rebuild.specs.Starting.{IsForStart, StartsNone}
use Rattle.ist_rows.specs.Taken.{RanOut, taken_by}
use Rattle.ist_tree.specs.declared.freezing.Frozen.{Frozen}
use Rattle.ist_tree.specs.Faces.{PassFace}
use Rattle.ist_tree.specs.RealTime.{StepsIn}
use Rattle.ist_tree.specs.DueRows.{kept_refusal}
use Rattle.ist_tree.specs.Room.{TakesAtMost}
use Rattle.ist_tree.specs.Refusals.{HadTooFew, IsTopRefused, LackedAt}

-- ---- what is frozen

-- no step changes what lies below the reference, and it has this many keys: it is nothing, a
-- published leaf, or an inner row that is finished with this number
pub data IsStill (t : Snapshot) : Ref → ℕ → Type 0 where
  no_key : IsStill t Empty 0
  one_key : (base : ℕ) (row : LeafRow) → t.pieces base ≡ Some (Leaf row) → IsStill t (LeafAt base) 1
  all_keys : (base keys : ℕ) → IsFinishedWith t base keys → IsStill t (InnerAt base) keys

-- the words of the rows that one pass takes at most for a freeze of this many keys: the inner rows of
-- the ideal tree of them, the row of the rebuild, and the changes of its start and its finish
abbrev pub words_of_freeze : ℕ → ℕ
words_of_freeze keys = sum (shape keys) + rebuild_words + 2 * change_words

-- the tree is frozen in the log
abbrev pub IsFrozenIn : List Pair → ℕ → Log → Frozen → Type 0
IsFrozenIn pairs words log frozen =
    IsStill (state_of pairs words log) (ref_meant frozen.root) frozen.keys

-- these are the pairs of the frozen tree in this log: the pairs of the leaves below its root
pub record HasFrozenPairs (pairs : List Pair) (words : ℕ) (log : Log) (frozen : Frozen)
    (found : List Pair) : Type 0 where
  pub leaves : List PlacedLeaf
  pub reached : HasLeaves (state_of pairs words log).pieces (Some (ref_meant frozen.root)) leaves
  pub pairs_are : found ≡ map pair_of leaves

-- ---- laws

-- a tree that is frozen in a log stays frozen in each lawful log that goes on
abbrev pub FrozenTreesStay : Type 0
FrozenTreesStay =
    (pairs : List Pair) (words : ℕ) (earlier log : Log) → Lawful pairs words log
    → GoesOn earlier log → (frozen : Frozen) → IsFrozenIn pairs words earlier frozen
    → IsFrozenIn pairs words log frozen

-- a frozen tree keeps its pairs in each lawful log that goes on
abbrev pub FrozenPairsStay : Type 0
FrozenPairsStay =
    (pairs : List Pair) (words : ℕ) (earlier log : Log) → Lawful pairs words log
    → GoesOn earlier log → (frozen : Frozen) (found : List Pair)
    → IsFrozenIn pairs words earlier frozen → HasFrozenPairs pairs words earlier frozen found
    → HasFrozenPairs pairs words log frozen found

-- the frozen tree has a list of pairs, one for each of its keys, strictly increasing by key
pub record HasItsPairs (pairs : List Pair) (words : ℕ) (log : Log) (frozen : Frozen) : Type 0 where
  pub found : List Pair
  pub has : HasFrozenPairs pairs words log frozen found
  pub number : length found ≡ frozen.keys
  pub rising : IsStrictlyIncreasing (map (λ pair. pair.key) found)

-- each frozen tree has its pairs
abbrev pub FrozenTreesHavePairs : Type 0
FrozenTreesHavePairs =
    (pairs : List Pair) (words : ℕ) (log : Log) → Lawful pairs words log → (frozen : Frozen)
    → IsFrozenIn pairs words log frozen → HasItsPairs pairs words log frozen

-- a frozen tree has at most one list of pairs
abbrev pub FrozenPairsAreOne : Type 0
FrozenPairsAreOne =
    (pairs : List Pair) (words : ℕ) (log : Log) (frozen : Frozen) (found others : List Pair)
    → HasFrozenPairs pairs words log frozen found → HasFrozenPairs pairs words log frozen others
    → found ≡ others

-- ---- what a freeze returns

-- the tree is frozen in the log, and its pairs are the map's pairs after some number of changes, no
-- fewer than the earlier log has
pub record WasFrozen (pairs : List Pair) (words : ℕ) (earlier log : Log) (frozen : Frozen)
    : Type 0 where
  pub frozen_is : IsFrozenIn pairs words log frozen
  pub found : List Pair
  pub has : HasFrozenPairs pairs words log frozen found
  pub were : WereThePairs pairs words earlier log found

-- the tree is frozen in what the pass has seen
abbrev pub IsFrozenFor : PassFace → Frozen → Type 0
IsFrozenFor p frozen = IsFrozenIn p.tree.start p.tree.words p.seen frozen

-- the tree was frozen in the call: its pairs are the map's pairs after some number of changes, no
-- fewer than there were at a step of the pass in this call, and no more than it has seen then
pub record HasFrozen (p q : PassFace) (frozen : Frozen) : Type 0 where
  pub at : Log
  pub step : StepsIn p q at
  pub was : WasFrozen p.tree.start p.tree.words at q.seen frozen

-- after some log between these the anchor's slot held an inner row
pub record HeldInnerRow (pairs : List Pair) (words : ℕ) (earlier log : Log) : Type 0 where
  pub at : Log
  pub since : GoesOn earlier at
  pub until : GoesOn at log
  pub row : ℕ
  pub holds : SlotHolds (state_of pairs words at) anchor 0 (word_of (InnerAt row))

-- this many words were asked for after this log for a row of a start, of which the pass had none.
-- What it took in the call and what it asked for are together no more words than these rows have
pub record IsAskedToFreeze (p q : PassFace) (at : Log) (asked : ℕ) : Type 0 where
  pub start : IsForStart asked
  pub lacked : LackedAt q at asked
  pub few : taken_by p.number q.seen + asked
      ≤ taken_by p.number p.seen + (rebuild_words + change_words)

-- the freeze couldn't start its rebuild: the anchor's slot held an inner row at a step of this call,
-- and too few words were left for the rebuild's row or its change
pub record IsFreezeRefused (p q : PassFace) (full : Full) : Type 0 where
  pub had : HadTooFew (IsAskedToFreeze p q) p q full
  pub held : HeldInnerRow p.tree.start p.tree.words p.seen q.seen

-- too few words were left in this call to help this rebuild of the row, and the pass keeps this
-- refusal, or an earlier one
pub record IsLeftShort (p q : PassFace) (row rebuild : ℕ) : Type 0 where
  pub full : Full
  pub cause : IsTopRefused p q full
  pub row_is : cause.row ≡ row
  pub rebuild_is : cause.had.left.few.asked.rebuild ≡ rebuild
  pub kept : q.refused ≡ kept_refusal p.refused full

-- a rebuild of this row was started, and was replaced, or too few words were left in this call to
-- help it
pub record IsRebuiltFor (p q : PassFace) (row : ℕ) : Type 0 where
  pub rebuild : ℕ
  pub started : IsStarted (state_of q.tree.start q.tree.words q.seen) rebuild
  pub target : HasTarget (state_of q.tree.start q.tree.words q.seen) rebuild row
  pub replaced : IsReplaced (state_of q.tree.start q.tree.words q.seen) rebuild
      ⊎ IsLeftShort p q row rebuild

-- if the root of the frozen tree is an inner row, it was rebuilt so
abbrev pub LeavesRebuilt : PassFace → PassFace → Frozen → Type 0
LeavesRebuilt p q frozen = (row : ℕ) → ref_meant frozen.root ≡ InnerAt row → IsRebuiltFor p q row

-- a rebuild of this row was started, and was replaced
pub record WasRebuilt (q : PassFace) (row : ℕ) : Type 0 where
  pub rebuild : ℕ
  pub started : IsStarted (state_of q.tree.start q.tree.words q.seen) rebuild
  pub target : HasTarget (state_of q.tree.start q.tree.words q.seen) rebuild row
  pub replaced : IsReplaced (state_of q.tree.start q.tree.words q.seen) rebuild

-- if the root of the frozen tree is an inner row, that was rebuilt
abbrev pub IsAllRebuilt : PassFace → Frozen → Type 0
IsAllRebuilt q frozen = (row : ℕ) → ref_meant frozen.root ≡ InnerAt row → WasRebuilt q row

-- the tree was rebuilt, and the pass met no refusal and took at most the words of a freeze
pub record FreezesWhole (p q : PassFace) (frozen : Frozen) : Type 0 where
  pub rebuilt : IsAllRebuilt q frozen
  pub unrefused : q.refused ≡ p.refused
  pub few : TakesAtMost p q (words_of_freeze frozen.keys)

-- so it was; or in the call too few words were left for rows with which the pass would have taken no
-- more than these
pub data FreezesInFew (p q : PassFace) (frozen : Frozen) : Type 0 where
  froze_few : FreezesWhole p q frozen → FreezesInFew p q frozen
  ran_short : RanOut p.number (words_of_freeze frozen.keys) p.tree.words p.tree.start p.seen q.seen
      → FreezesInFew p q frozen

-- the pass has started no rebuild in the call: each of its starts that was decided yes by the end
-- was decided yes before
abbrev pub HasStartedNone : PassFace → PassFace → Type 0
HasStartedNone p q =
    StartsNone (state_of p.tree.start p.tree.words p.seen)
    (state_of q.tree.start q.tree.words q.seen) p.number

-- the pair is number i of the frozen tree, counted from 0 in the order of the keys
pub record IsPairAt (pairs : List Pair) (words : ℕ) (log : Log) (frozen : Frozen) (i : ℕ)
    (pair : Pair) : Type 0 where
  pub found : List Pair
  pub has : HasFrozenPairs pairs words log frozen found
  pub rising : IsStrictlyIncreasing (map (λ other. other.key) found)
  pub there : slice_get found i ≡ Some pair

-- the pair is number i of the frozen tree in what the pass has seen
abbrev pub IsFrozenPair : PassFace → Frozen → ℕ → Pair → Type 0
IsFrozenPair p frozen i pair = IsPairAt p.tree.start p.tree.words p.seen frozen i pair
