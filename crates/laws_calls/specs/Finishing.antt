-- The laws over lawful logs on rows that were linked or are finished. `src/rows.rt` lists them.
use Rattle.std.specs.Prelude.{Bool, List, Some, false, filter, length, map, true, ℕ, ◌+◌, ◌≢◌, ◌≤◌}
use Rattle.std.specs.List.Sorted.{IsStrictlyIncreasing}
use Rattle.ist_core.specs.declared.commands.Command.{Command}
use Rattle.ist_core.specs.declared.commands.Command.TheVariants.{Get, Put, Remove}
use Rattle.ist_core.specs.declared.pairs.Pair.{Pair}
use Rattle.ist_core.specs.Changes.{Entry, changes_of}
use Rattle.ist_core.specs.Lawful.{Lawful, state_of}
use Rattle.ist_core.specs.Leaves.{HasLeaves, PlacedLeaf}
use Rattle.ist_core.specs.Links.{WasLinked}
use Rattle.ist_core.specs.Logs.{GoesOn, Log}
use Rattle.ist_core.specs.Marking.{IsFrozen}
use Rattle.ist_core.specs.Rebuilding.{IsFinishedWith}
use Rattle.ist_core.specs.References.{InnerAt, Unset, unset_word}
use Rattle.ist_core.specs.RowLayout.{anchor}
use Rattle.ist_core.specs.Slots.{SlotHolds, logical}
use Rattle.ist_core.specs.StartLayout.{start}
use Rattle.laws_links.specs.Linking.{IsFinished}

-- no slot of a row that was linked reads as Unset
abbrev pub SlotsThatWereLinkedAreSet : Type 0
SlotsThatWereLinkedAreSet =
    (pairs : List Pair) (words : ℕ) (log : Log) → Lawful pairs words log → (node i word : ℕ)
    → WasLinked (start pairs words) log node → SlotHolds (state_of pairs words log) node i word
    → logical (state_of pairs words log).pieces word ≢ Some Unset

-- a slot of any row that once held another word than Unset never holds Unset again
abbrev pub SetSlotsStaySet : Type 0
SetSlotsStaySet =
    (pairs : List Pair) (words : ℕ) (earlier log : Log) → Lawful pairs words log
    → GoesOn earlier log → (node i word later : ℕ)
    → SlotHolds (state_of pairs words earlier) node i word → word ≢ unset_word
    → SlotHolds (state_of pairs words log) node i later → later ≢ unset_word

-- each slot of a finished row was passed with some word
abbrev pub FinishedSlotsWerePassed : Type 0
FinishedSlotsWerePassed =
    (pairs : List Pair) (words : ℕ) (log : Log) → Lawful pairs words log → (node i word : ℕ)
    → IsFinished (state_of pairs words log) node → SlotHolds (state_of pairs words log) node i word
    → (passed : ℕ) × IsFrozen log node i passed

-- the leaves below a row that was linked have strictly increasing keys
abbrev pub LeavesThatWereLinkedRise : Type 0
LeavesThatWereLinkedRise =
    (pairs : List Pair) (words : ℕ) (log : Log) → Lawful pairs words log
    → (node : ℕ) (leaves : List PlacedLeaf) → node ≢ anchor
    → WasLinked (start pairs words) log node
    → HasLeaves (state_of pairs words log).pieces (Some (InnerAt node)) leaves
    → IsStrictlyIncreasing (map (λ leaf. leaf.row.key) leaves)

-- the leaves below a finished row have strictly increasing keys
abbrev pub FinishedLeavesRise : Type 0
FinishedLeavesRise =
    (pairs : List Pair) (words : ℕ) (log : Log) → Lawful pairs words log
    → (node : ℕ) (leaves : List PlacedLeaf) → IsFinished (state_of pairs words log) node
    → HasLeaves (state_of pairs words log).pieces (Some (InnerAt node)) leaves
    → IsStrictlyIncreasing (map (λ leaf. leaf.row.key) leaves)

-- is the command a put
abbrev pub is_put : Command → Bool
is_put (Put key value) = true
is_put (Remove key) = false
is_put (Get key) = false

-- how many of the changes are puts
abbrev pub puts_in : List Entry → ℕ
puts_in entries = length (filter (λ entry. is_put entry.command) entries)

-- a row is finished with at most as many keys as there were pairs at the start plus puts since
abbrev pub NumbersAreOfPuts : Type 0
NumbersAreOfPuts =
    (pairs : List Pair) (words : ℕ) (log : Log) → Lawful pairs words log → (node k : ℕ)
    → IsFinishedWith (state_of pairs words log) node k
    → k ≤ length pairs + puts_in (changes_of pairs words log)
