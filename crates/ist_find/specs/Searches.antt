-- What a search promises: by which words it found its result, and what the caller knows after it.
use Rattle.std.specs.Prelude.{◌≡◌, ℕ, ◌+◌, ◌≤◌, List, [], length, Option, Some, None}
use Rattle.std.specs.List.{sum_by}
use Rattle.ist_core.specs.declared.states.ChangeRow.{ChangeRow}
use Rattle.ist_core.specs.declared.states.InnerRow.{InnerRow}
use Rattle.ist_core.specs.declared.states.LeafRow.{LeafRow}
use Rattle.ist_core.specs.declared.states.RebuildRow.{RebuildRow}
use Rattle.ist_core.specs.Arithmetic.{child_count}
use Rattle.ist_core.specs.References.{Ref, Empty, Unset, LeafAt, InnerAt, ChangeAt, RebuildAt}
use Rattle.ist_core.specs.Pieces.{Leaf, Inner, Change, Rebuild, as_inner}
use Rattle.ist_math.specs.Guess.{guess_in, distance}
use Rattle.ist_rule.specs.declared.view.View.{View}
use Rattle.ist_core.specs.Authors.{Later}
use Rattle.ist_rule.specs.Rule.{IsSound}
use Rattle.ist_rule.specs.Learning.{now}
use Rattle.laws_histories.specs.Searching.{Searched}
use Rattle.laws_calls.specs.Walking.{ComesBy, IsChainOf}

-- ---- nodes

-- the node is an inner row that is published in the caller's log
pub record IsRow (v : View) (node : ℕ) : Type 0 where
  pub row : InnerRow
  pub published : (now v).pieces node ≡ Some (Inner row)

-- the keys of an inner row, or none if there is no row
abbrev pub keys_in : Option InnerRow → List ℕ
keys_in (Some row) = row.keys
keys_in None = []

-- the keys of the node in the caller's log
abbrev pub keys_at : View → ℕ → List ℕ
keys_at v node = keys_in (as_inner ((now v).pieces node))

-- ---- what a word names

-- a leaf is published at the base
pub record SeesLeaf (v : View) (base : ℕ) : Type 0 where
  pub row : LeafRow
  pub published : (now v).pieces base ≡ Some (Leaf row)

-- a change is published at the base
pub record SeesChange (v : View) (base : ℕ) : Type 0 where
  pub row : ChangeRow
  pub published : (now v).pieces base ≡ Some (Change row)

-- a rebuild is published at the base
pub record SeesRebuild (v : View) (base : ℕ) : Type 0 where
  pub row : RebuildRow
  pub published : (now v).pieces base ≡ Some (Rebuild row)

-- the word is a reference: to no row, or to a row of its kind that is published in the caller's log
abbrev pub Names : View → Option Ref → Type 0
Names v None = ⊥
Names v (Some Empty) = Unit {0}
Names v (Some Unset) = Unit {0}
Names v (Some (LeafAt base)) = SeesLeaf v base
Names v (Some (InnerAt base)) = IsRow v base
Names v (Some (ChangeAt base)) = SeesChange v base
Names v (Some (RebuildAt base)) = SeesRebuild v base

-- ---- where a search is

-- the caller's search for the key has come to the node through these rows, the node last
pub record HasCome (v : View) (key node : ℕ) (rows : List ℕ) : Type 0 where
  pub last : ℕ
  pub until : last ≤ length v.log
  pub comes : ComesBy v.start v.words v.log key v.loads.since last node rows

-- the caller's search for the key has come to the node
abbrev pub Came : View → ℕ → ℕ → Type 0
Came v key node = (rows : List ℕ) × HasCome v key node rows

-- how many loads a row costs at most: the distance of the guess from the child for the key, plus 12
abbrev pub row_cost : View → ℕ → ℕ → ℕ
row_cost v key row =
    let keys = keys_at v row in
    distance (guess_in keys key) (child_count keys key) + 12

-- how many loads these rows cost together at most
abbrev pub cost_of : View → ℕ → List ℕ → ℕ
cost_of v key = sum_by (row_cost v key)

-- ---- a search

-- the caller has begun a search, and has seen no more since
abbrev pub HasBegunSearch : View → Type 0
HasBegunSearch v = v.loads.since ≡ length v.log

-- the caller began one search and made only loads: it may have seen more events of others, and the
-- rest of its view is unchanged
pub record HasSearched (v w : View) : Type 0 where
  pub later : Later v.who v.log w.log
  pub sound : IsSound w
  pub same : w ≡ record v {
    log = w.log;
    loads = w.loads;
    loaded = w.loaded;
    searches = w.searches;
  }
  pub searches : w.searches ≡ v.searches + 1
  pub since : length v.log ≤ w.loads.since
  pub loaded : v.loaded ≤ w.loaded

-- the caller's search for the key ended at this slot of the node, with the value that a word loaded
-- from the slot gives the key
pub record HasFound (v : View) (key node index : ℕ) (value : Option ℕ) : Type 0 where
  pub searched : Searched v.start v.words v.log key v.loads.since node value
  pub index_is : searched.look.index ≡ index

-- a search that ended at the node made few loads: at most 10 plus the cost of the rows on the
-- node's chain
pub record HasFewLoads (v w : View) (key node : ℕ) : Type 0 where
  pub rows : List ℕ
  pub chain : IsChainOf w.start w.words w.log node rows
  pub few : w.loaded ≤ v.loaded + 10 + cost_of w key rows
