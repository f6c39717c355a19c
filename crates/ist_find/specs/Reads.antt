-- What the steps of a search promise each other: which rows a word names, and how a slot reads.
use Rattle.std.specs.Prelude.{◌≡◌, ◌≢◌, ℕ, ◌+◌, ◌<◌, ◌≤◌, length, List, Option, Some}
use Rattle.ist_core.specs.declared.loads.Load.{Load}
use Rattle.ist_core.specs.References.{Ref, Empty, Unset, LeafAt, InnerAt, ChangeAt, ref_of}
use Rattle.ist_rule.specs.declared.view.View.{View}
use Rattle.ist_rule.specs.Learning.{GoesOnTo}
use Rattle.laws_histories.specs.Searching.{ReadsSide, ReadsTarget, LooksAt, ReadsValue}
use Rattle.laws_calls.specs.Walking.{ComesBy}
use Rattle.ist_find.specs.Searches.{IsRow, SeesLeaf, Names, cost_of}

-- ---- what is read

-- the reference names no change
abbrev pub IsPlain : Option Ref → Type 0
IsPlain ref = (base : ℕ) → ref ≢ Some (ChangeAt base)

-- what a slot may read as: nothing, a leaf, an inner row, or a part that isn't built yet
abbrev pub IsFoundAs : View → Ref → Type 0
IsFoundAs v Empty = Unit {0}
IsFoundAs v Unset = Unit {0}
IsFoundAs v (LeafAt base) = SeesLeaf v base
IsFoundAs v (InnerAt base) = IsRow v base
IsFoundAs v _ = ⊥

-- what a slot of a node that a search has reached reads as: nothing, a leaf, or an inner row above
-- the node
abbrev pub IsReached : View → ℕ → Ref → Type 0
IsReached v node Empty = Unit {0}
IsReached v node (LeafAt base) = SeesLeaf v base
IsReached v node (InnerAt base) = (node < base) × IsRow v base
IsReached v node _ = ⊥

-- a search ends here: at nothing or at a leaf
abbrev pub IsEnd : View → Ref → Type 0
IsEnd v Empty = Unit {0}
IsEnd v (LeafAt base) = SeesLeaf v base
IsEnd v _ = ⊥

-- ---- how a slot reads

-- a load of the word, made when the caller had seen this view's log
abbrev pub loaded_in : View → ℕ → ℕ → Load
loaded_in v place word = record { place = place; word = word; length = length v.log }

-- a word that was loaded in the first view reads so by what was loaded up to the second one
pub record HasSideRead (v w : View) (word side : ℕ) : Type 0 where
  pub last : ℕ
  pub until : last ≤ length w.log
  pub side_is : (place : ℕ) → ReadsSide w.start w.words w.log (loaded_in v place word) side last

-- the caller made only loads, by which the word reads so: as a published row other than a change,
-- or as no row
pub record TellsSide (v w : View) (word side : ℕ) : Type 0 where
  pub seen : GoesOnTo v w
  pub has : HasSideRead v w word side
  pub names : Names w (ref_of side)
  pub plain : IsPlain (ref_of side)

-- a word that names no change reads so by what was loaded between the views
abbrev pub HasTargetRead : View → View → ℕ → Ref → Type 0
HasTargetRead v w word ref =
    (least : ℕ) → least ≤ length v.log → ReadsTarget w.start w.words w.log least word ref

-- what the slot reads as gives the key this value, by what was loaded between the views
abbrev pub HasValueRead : View → View → ℕ → Ref → Option ℕ → Type 0
HasValueRead v w key ref value =
    (least : ℕ) → least ≤ length v.log → ReadsValue w.start w.words w.log key least ref value

-- the caller made only loads, by which a word that names no change reads so, and not as a rebuild
pub record TellsTarget (v w : View) (word : ℕ) (ref : Ref) : Type 0 where
  pub seen : GoesOnTo v w
  pub has : HasTargetRead v w word ref
  pub found : IsFoundAs w ref

-- the caller made only loads, by which the reference gives the key this value
pub record TellsValue (v w : View) (key : ℕ) (ref : Ref) (value : Option ℕ) : Type 0 where
  pub seen : GoesOnTo v w
  pub has : HasValueRead v w key ref value

-- ---- where a search is

-- the caller's search for the key has come to the node through these rows, and looked at this slot
-- of it
pub record HasLooked (v : View) (key node index : ℕ) (rows : List ℕ) (ref : Ref) : Type 0 where
  pub least : ℕ
  pub last : ℕ
  pub until : last ≤ length v.log
  pub comes : ComesBy v.start v.words v.log key v.loads.since least node rows
  pub look : LooksAt v.start v.words v.log key least last node ref
  pub index_is : look.index ≡ index

-- the search has looked at the slot with no more loads since the first view than its rows cost
pub record LooksFew (v w : View) (key node index : ℕ) (ref : Ref) : Type 0 where
  pub rows : List ℕ
  pub looked : HasLooked w key node index rows ref
  pub few : w.loaded ≤ v.loaded + cost_of w key rows
