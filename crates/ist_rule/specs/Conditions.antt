-- What a seat must show for a step: that its event is enabled whatever others do meanwhile, and
-- that its call allows it.
use Rattle.std.specs.Prelude.{◌≡◌, ◌≢◌, ◌⊎◌, ℕ, ◌+◌, ◌^◌, ◌<◌, List, [], ◌∷◌, ◌++◌, length, slice_get, Some, None}
use Rattle.ist_core.specs.declared.calls.Call.{Call}
use Rattle.ist_core.specs.declared.events.Event.{Event}
use Rattle.ist_core.specs.declared.events.Event.TheVariants.{Enter, Install}
use Rattle.ist_core.specs.declared.states.ChangeRow.{ChangeRow}
use Rattle.ist_core.specs.declared.lists.Row.{Row}
use Rattle.ist_core.specs.declared.lists.HeldRow.{HeldRow}
use Rattle.ist_core.specs.Elements.{Among, Each}
use Rattle.ist_core.specs.Logs.{Log, GoesOn}
use Rattle.ist_core.specs.StartLayout.{start}
use Rattle.ist_core.specs.Lawful.{Lawful, state_of}
use Rattle.ist_core.specs.Enabled.{Enabled}
use Rattle.ist_core.specs.Rebuilding.{IsUpdate}
use Rattle.ist_core.specs.Deciding.{AllResolvedOf}
use Rattle.ist_core.specs.Changes.{command_of}
use Rattle.ist_core.specs.Standing.{StandsIn, IsFresh}
use Rattle.ist_core.specs.Writing.{touch_of, published_by, first_change}
use Rattle.ist_rule.specs.declared.view.View.{View}
use Rattle.ist_rule.specs.declared.view.Pending.{Pending}
use Rattle.ist_core.specs.declared.events.Who.TheVariants.{Caller}
use Rattle.ist_core.specs.Authors.{whose, Later}
use Rattle.ist_core.specs.Shown.{IsShown}
use Rattle.ist_rule.specs.Rule.{own_at}
use Rattle.ist_rule.specs.Standings.{HasMade}
use Rattle.ist_rule.specs.Learning.{now, Naming}

-- the seat may come to see this log: it is lawful and goes on from the seat's by events of others
pub record MayCome (v : View) (log : Log) : Type 0 where
  pub later : Later v.who v.log log
  pub lawful : Lawful v.start v.words log

-- the words of the rows are what the seat stored there
abbrev pub StoredAll : View → List Row → Type 0
StoredAll v rows =
    Each (λ row. (k : ℕ) → k < length row.words
    → slice_get row.words k ≡ Some (own_at v.own (row.base + k))) rows

-- ---- an Install in a call

-- each change that the caller installed is resolved in the log that the seat has seen
abbrev pub IsResolved : View → ℕ → Type 0
IsResolved v number = AllResolvedOf (now v) v.log number

-- the seat is in a call, in which all its earlier changes are resolved; a put or remove is the
-- call's command, and none of this call was decided yes
pub record MayInstall (v : View) (caller : ℕ) (change : ChangeRow) : Type 0 where
  pub pending : Pending
  pub in_call : v.pending ≡ Some pending
  pub resolved : IsResolved v caller
  pub command : IsUpdate change.kind → command_of change ≡ pending.command
  pub none_yet : IsUpdate change.kind → HasMade v.start v.words v.log caller v.calls

-- the seat may make the event: an Install if its call allows it, and an Enter if all callers
-- entered before have their seats
abbrev pub SeatAllows : View → Event → Type 0
SeatAllows v (Install caller base rows) = (change : ChangeRow) → first_change rows ≡ Some change
    → MayInstall v caller change
SeatAllows v (Enter caller) = v.given ≡ v.made
SeatAllows v _ = Unit {0}

-- ---- events

-- the event is the seat's own, its rows are as the seat stored them, and the seat may make it
pub record CanMake (v : View) (event : Event) : Type 0 where
  pub mine : whose event ≡ v.who
  pub stored : StoredAll v (published_by event)
  pub allowed : SeatAllows v event

-- after the log the event is enabled, and its step finds one word at the place and leaves another
pub record ComesAt (v : View) (log : Log) (event : Event) (place found left : ℕ) : Type 0 where
  pub enabled : Enabled (start v.start v.words) log event
  pub touches : touch_of (state_of v.start v.words log) event
      ≡ Some record { place = place; found = found; left = left }

-- all know the word at the place, after each log that may come
abbrev pub IsKnown : View → ℕ → Type 0
IsKnown v place = (log : Log) → MayCome v log → (word : ℕ)
    × IsShown (state_of v.start v.words log) place word

-- an exchange of `old` for `new` is the event: after each log that may come and has `old` there,
-- the event is enabled
-- Who meets it: of a Reserve `ist_rows`, by the rows that its caller holds; of an Install and what
-- follows it the crate of changes, by the filled row and by the Okay, or the mark, in its log; of a
-- Mark and a Finish the crate that marks, by the passes in its log; each by laws over lawful logs
pub record CanExchange (v : View) (place old new : ℕ) (event : Event) : Type 0 where
  pub make : CanMake v event
  pub known : IsKnown v place
  pub comes : (log : Log) → MayCome v log → IsShown (state_of v.start v.words log) place old
      → ComesAt v log event place old new

-- an add is the event that is named for the word found: after each log that may come it is enabled,
-- and leaves one more
-- Who meets it: of an Enter `ist_rows`, as the maker has entered all callers; of a Count the owner
-- of a change after its yes; of a Draw the caller that fills the parts of a root, by the finished
-- target
pub record CanAdd (v : View) (place : ℕ) (named : ℕ → Event) : Type 0 where
  pub make : (found : ℕ) → CanMake v (named found)
  pub known : IsKnown v place
  pub comes : (log : Log) → MayCome v log → (found : ℕ)
      → IsShown (state_of v.start v.words log) place found
      → ComesAt v log (named found) place found (found + 1)
  pub fits : (log : Log) → MayCome v log → (found : ℕ)
      → IsShown (state_of v.start v.words log) place found
      → found + 1 < 2 ^ 64

-- after the log the event is enabled, and a step that leaves the word at the place as it is may be
-- this event
pub record LeavesAt (v : View) (log : Log) (event : Event) (place word : ℕ) : Type 0 where
  pub enabled : Enabled (start v.start v.words) log event
  pub leaves : (touch_of (state_of v.start v.words log) event
      ≡ Some record { place = place; found = word; left = word })
      ⊎ (touch_of (state_of v.start v.words log) event ≡ None)

-- a load of the place is the event that is named for the log before it and the word, if one is
-- Who meets it: `load_okay`, `load_pass` and `load_past`, each by its own condition (`Watching`)
pub record CanLoadAs (v : View) (place : ℕ) (named : Naming) : Type 0 where
  pub known : IsKnown v place
  pub comes : (log : Log) → MayCome v log → (word : ℕ)
      → IsShown (state_of v.start v.words log) place word
      → (event : Event) → named log word ≡ Some event
      → CanMake v event × LeavesAt v log event place word

-- an exchange is the event if it finds `old`, and otherwise the other one
-- Who meets it: the caller that publishes a root or a part, by the held rows that it built over the
-- finished target; the other event is the Lose of just these rows
pub record CanExchangeOrLose (v : View) (place old new : ℕ) (event lost : Event) : Type 0 where
  pub hit : CanExchange v place old new event
  pub make : CanMake v lost
  pub miss : (log : Log) → MayCome v log → (found : ℕ)
      → IsShown (state_of v.start v.words log) place found
      → found ≢ old → LeavesAt v log lost place found

-- ---- walks

-- the seat has begun a search, and has made no load since: a walk may begin
-- Who meets it: each walk from the anchor, right after `begin_search` or `begin_read`
pub record MayWalk (v : View) : Type 0 where
  pub begun : 0 < v.searches
  pub none : v.loads.list ≡ []

-- ---- own rows

-- the place lies in a row that the seat's caller holds
-- Who meets it: `fill` of `ist_rows`, by the rows that its caller holds
pub record IsOwn (v : View) (place : ℕ) : Type 0 where
  pub row : HeldRow
  pub held : Among row (now v).held
  pub mine : v.who ≡ Caller row.caller
  pub offset : ℕ
  pub within : offset < row.size
  pub at : place ≡ row.base + offset

-- ---- calls

-- a call may begin: the seat is a caller's, and in no call
-- Who meets it: each call of a pass on the tree, at its beginning
pub record CanBegin (v : View) : Type 0 where
  pub number : ℕ
  pub mine : v.who ≡ Caller number
  pub in_none : v.pending ≡ None

-- the seat's call may end as this call: its command is the one in progress and its stamp the next,
-- all that was installed is resolved, the calls of the seat are in its log with it, and it is fresh
-- for what was seen when it began
-- Who meets it: each call of a pass that returns a reply, by the laws on standing: a get by its
-- search, an update by its yes
pub record CanEnd (v : View) (call : Call) : Type 0 where
  pub number : ℕ
  pub mine : v.who ≡ Caller number
  pub pending : Pending
  pub in_call : v.pending ≡ Some pending
  pub command_is : pending.command ≡ Some call.command
  pub stamp_is : call.stamp ≡ v.stamp + 1
  pub resolved : IsResolved v number
  pub stand : StandsIn v.start v.words v.log number (v.calls ++ call ∷ [])
  pub seen : Log
  pub goes_on : GoesOn seen v.log
  pub length_is : pending.length ≡ length seen
  pub fresh : IsFresh v.start v.words seen v.stamp call

-- the call may be given up: all that it installed is resolved, and no put or remove of it was
-- decided yes
-- Who meets it: each call of a pass that is refused because no words are left
pub record CanGiveUp (v : View) : Type 0 where
  pub number : ℕ
  pub mine : v.who ≡ Caller number
  pub pending : Pending
  pub in_call : v.pending ≡ Some pending
  pub resolved : IsResolved v number
  pub none : HasMade v.start v.words v.log number v.calls
