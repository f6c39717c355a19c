-- Where each call is in the woven history.
use Rattle.std.specs.Prelude.{◌≡◌, ℕ, ◌+◌, ◌<◌, ◌≤◌, ◌⊎◌, if◌then◌else◌, List, [], ◌∷◌, ◌++◌, map}
use Rattle.std.specs.List.Sorted.{IsPermutation}
use Rattle.ist_core.specs.declared.calls.Call.{Call}
use Rattle.ist_core.specs.declared.pairs.Pair.{Pair}
use Rattle.ist_core.specs.Elements.{Among, Each}
use Rattle.ist_core.specs.Replies.{Answered}
use Rattle.ist_core.specs.Logs.{Log}
use Rattle.ist_core.specs.Changes.{Entry, changes_of}
use Rattle.ist_core.specs.Standing.{is_change, entry_by, Follows}
use Rattle.ist_core.specs.Histories.{PassCalls, StandInPrefixes, Reading, readings, told_by_entry, told_by_reading, woven}

-- an item of a history: the change of a log with this number, or a call of a pass that changes
-- nothing
pub data Item : Type 0 where
  change_at : ℕ → Entry → Item
  reading_by : Reading → Item

-- the command of an item, and its reply
abbrev pub told_by : Item → Answered
told_by (change_at position entry) = told_by_entry entry
told_by (reading_by x) = told_by_reading x

-- changes, numbered from this number on
abbrev pub changes_from : ℕ → List Entry → List Item
changes_from position [] = []
changes_from position (entry ∷ entries) =
    change_at position entry ∷ changes_from (position + 1) entries

-- all changes, and the other calls of the passes
abbrev pub items : List Entry → List PassCalls → List Item
items entries passes = changes_from 0 entries ++ map reading_by (readings passes)

-- the first item comes before the second by position. A reading comes before the change at its
-- position, and readings at one position go by their stamps
abbrev pub StandsBefore : Item → Item → Type 0
StandsBefore (change_at i entry) (change_at j other) = i < j
StandsBefore (change_at i entry) (reading_by y) = i < y.call.position
StandsBefore (reading_by x) (change_at j entry) = x.call.position ≤ j
StandsBefore (reading_by x) (reading_by y) =
    (x.call.position < y.call.position)
    ⊎ ((x.call.position ≡ y.call.position) × (x.call.stamp ≤ y.call.stamp))

-- each item comes before all later ones
abbrev pub AllInOrder : List Item → Type 0
AllInOrder [] = Unit {0}
AllInOrder (item ∷ more) = Each (StandsBefore item) more × AllInOrder more

-- the woven history has each change once, each other call of the passes once, and nothing else, in
-- order
pub record HasPlaces (entries : List Entry) (passes : List PassCalls) : Type 0 where
  pub placed : List Item
  pub told : map told_by placed ≡ woven entries passes
  pub once : IsPermutation (items entries passes) placed
  pub in_order : AllInOrder placed

-- the history of passes that are placed in prefixes of one log has these places
abbrev pub WovenHasPlaces : Type 0
WovenHasPlaces =
    (pairs : List Pair) (words : ℕ) (log : Log) (passes : List PassCalls)
    → StandInPrefixes pairs words log passes → HasPlaces (changes_of pairs words log) passes

-- the item of a call of the pass with this number
abbrev pub item_of : ℕ → Call → Item
item_of number call =
    if is_change call then change_at call.position (entry_by number call)
    else reading_by record { number = number; call = call }

-- each call of the passes is among the items
abbrev pub CallsHavePlaces : Type 0
CallsHavePlaces =
    (pairs : List Pair) (words : ℕ) (log : Log) (passes : List PassCalls)
    → StandInPrefixes pairs words log passes
    → (pass : PassCalls) → Among pass passes → (call : Call) → Among call pass.calls
    → Among (item_of pass.number call) (items (changes_of pairs words log) passes)

-- a call that follows another, of its own pass or of another one, is never placed before it
abbrev pub FollowersComeLater : Type 0
FollowersComeLater =
    (number other : ℕ) (call later : Call) → Follows call later
    → ¬ (StandsBefore (item_of other later) (item_of number call))
