-- The law over lawful logs on the rows that a search or a walk meets. `src/walks.rt` names it.
use Rattle.std.specs.Prelude.{List, Some, [], length, slice_get, ℕ, ◌++◌, ◌∷◌, ◌≡◌, ◌≤◌}
use Rattle.ist_core.specs.declared.pairs.Pair.{Pair}
use Rattle.ist_core.specs.Elements.{Among}
use Rattle.ist_core.specs.Lawful.{Lawful, state_of}
use Rattle.ist_core.specs.Links.{Chain, IsChild, WasOnChain}
use Rattle.ist_core.specs.Logs.{Ever, GoesOn, Log}
use Rattle.ist_core.specs.References.{InnerAt}
use Rattle.ist_core.specs.RowLayout.{anchor}
use Rattle.ist_core.specs.Slots.{IsChildFor}
use Rattle.ist_core.specs.StartLayout.{start}
use Rattle.laws_histories.specs.Searching.{ComesTo, LooksAt}

-- ---- chains

-- the rows are the chain of the node: they were at some moment, and at no moment was the chain
-- another
pub record IsChainOf (pairs : List Pair) (words : ℕ) (log : Log) (node : ℕ)
    (rows : List ℕ) : Type 0 where
  pub was : Ever (start pairs words) (λ t. Chain t node rows) log
  pub only : (at : Log) → GoesOn at log → (others : List ℕ)
      → Chain (state_of pairs words at) node others → others ≡ rows

-- each of these rows was on the chain of the node
abbrev pub ChainsHaveTheirRows : Type 0
ChainsHaveTheirRows =
    (pairs : List Pair) (words : ℕ) (log : Log) (node : ℕ) (rows : List ℕ)
    → IsChainOf pairs words log node rows → (row : ℕ) → Among row rows
    → WasOnChain (start pairs words) log node row

-- each row was on the chain of each row of the list that isn't higher
abbrev pub UpperRowsWereOnTheChain : Type 0
UpperRowsWereOnTheChain =
    (pairs : List Pair) (words : ℕ) (log : Log) (node : ℕ) (rows : List ℕ)
    → IsChainOf pairs words log node rows → (i j upper row : ℕ) → i ≤ j
    → slice_get rows i ≡ Some upper → slice_get rows j ≡ Some row
    → WasOnChain (start pairs words) log row upper

-- ---- a search

-- a search that reached the node, as `ComesTo` says, with the rows that it met, the node last
pub data ComesBy (pairs : List Pair) (words : ℕ) (log : Log) (key began : ℕ)
    : ℕ → ℕ → List ℕ → Type 0 where
  begins_by : ComesBy pairs words log key began began anchor []
  goes_by : {least last node child : ℕ} {rows : List ℕ}
      → ComesBy pairs words log key began least node rows
      → LooksAt pairs words log key least last node (InnerAt child)
      → ComesBy pairs words log key began last child (rows ++ child ∷ [])

-- each search met some rows
abbrev pub SearchesMeetRows : Type 0
SearchesMeetRows =
    (pairs : List Pair) (words : ℕ) (log : Log) (key began last node : ℕ)
    → ComesTo pairs words log key began last node
    → (rows : List ℕ) × ComesBy pairs words log key began last node rows

-- what met rows in this way is a search
abbrev pub MeetingsAreSearches : Type 0
MeetingsAreSearches =
    (pairs : List Pair) (words : ℕ) (log : Log) (key began last node : ℕ) (rows : List ℕ)
    → ComesBy pairs words log key began last node rows
    → ComesTo pairs words log key began last node

-- a search met the same rows in a longer log
abbrev pub MeetingsGoOn : Type 0
MeetingsGoOn =
    (pairs : List Pair) (words : ℕ) (log longer : Log) → GoesOn log longer
    → (key began last node : ℕ) (rows : List ℕ)
    → ComesBy pairs words log key began last node rows
    → ComesBy pairs words longer key began last node rows

-- the rows that a search met are the chain of the node that it reached
abbrev pub MetRowsAreTheChain : Type 0
MetRowsAreTheChain =
    (pairs : List Pair) (words : ℕ) (log : Log) → Lawful pairs words log
    → (key began last node : ℕ) (rows : List ℕ) → began ≤ length log
    → ComesBy pairs words log key began last node rows → IsChainOf pairs words log node rows

-- ---- a walk

-- a walk down from the anchor has reached the node and met these rows. Each child hung in its slot
-- at a moment no earlier than its parent's
pub data WalksTo (pairs : List Pair) (words : ℕ) : Log → ℕ → List ℕ → Type 0 where
  at_top : {at : Log} → WalksTo pairs words at anchor []
  walks_down : {before at : Log} {node child : ℕ} {rows : List ℕ} (i : ℕ)
      → WalksTo pairs words before node rows → GoesOn before at
      → IsChild (state_of pairs words at) node i child
      → WalksTo pairs words at child (rows ++ child ∷ [])

-- the rows that a walk met are the chain of the node that it reached
abbrev pub WalkedRowsAreTheChain : Type 0
WalkedRowsAreTheChain =
    (pairs : List Pair) (words : ℕ) (at log : Log) → Lawful pairs words log → GoesOn at log
    → (node : ℕ) (rows : List ℕ) → WalksTo pairs words at node rows
    → IsChainOf pairs words log node rows

-- ---- a walk by key

-- a walk that began at the first log and went down by the children for the key
pub data WalksByKey (pairs : List Pair) (words key : ℕ) (first : Log)
    : Log → ℕ → List ℕ → Type 0 where
  at_first : WalksByKey pairs words key first first anchor []
  walks_for : {before at : Log} {node child : ℕ} {rows : List ℕ} (i : ℕ)
      → WalksByKey pairs words key first before node rows → GoesOn before at
      → IsChildFor (state_of pairs words at) node key i
      → IsChild (state_of pairs words at) node i child
      → WalksByKey pairs words key first at child (rows ++ child ∷ [])

-- a walk by key is a walk
abbrev pub WalksByKeyAreWalks : Type 0
WalksByKeyAreWalks =
    (pairs : List Pair) (words key : ℕ) (first at : Log) (node : ℕ) (rows : List ℕ)
    → WalksByKey pairs words key first at node rows → WalksTo pairs words at node rows

-- a walk by key is also a search, which began with the events of the first log and met the same
-- rows
abbrev pub WalksByKeyAreSearches : Type 0
WalksByKeyAreSearches =
    (pairs : List Pair) (words : ℕ) (at log : Log) → Lawful pairs words log → GoesOn at log
    → (key : ℕ) (first : Log) (node : ℕ) (rows : List ℕ)
    → WalksByKey pairs words key first at node rows
    → ComesBy pairs words log key (length first) (length at) node rows
