-- What a walk promises: by which rows it came down, what it counted on its way back, and which row
-- this made due.
use Rattle.std.specs.Prelude.{◌≡◌, ◌≤◌, ℕ, ◌+◌, Bool, true, false, length, List, ◌++◌, ◌∷◌, Option, Some, None, Result, Ok, Err}
use Rattle.ist_core.specs.declared.commands.Command.{Command}
use Rattle.ist_core.specs.declared.events.Event.{Event}
use Rattle.ist_core.specs.declared.events.Event.TheVariants.{Count}
use Rattle.ist_core.specs.declared.pairs.Pair.{Pair}
use Rattle.ist_core.specs.declared.ports.Full.{Full}
use Rattle.ist_core.specs.declared.states.InnerRow.{InnerRow}
use Rattle.ist_core.specs.Arithmetic.{limit}
use Rattle.ist_core.specs.Authors.{GoesOnBy, Later}
use Rattle.ist_core.specs.Changes.{command_of, reply_of}
use Rattle.ist_core.specs.Deciding.{CanCount}
use Rattle.ist_core.specs.Elements.{Among}
use Rattle.ist_core.specs.Lawful.{state_of}
use Rattle.ist_core.specs.Links.{WasLinked, WasOnChain}
use Rattle.ist_core.specs.Logs.{Log, GoesOn}
use Rattle.ist_core.specs.Pieces.{Inner}
use Rattle.ist_core.specs.Rebuilding.{IsDue}
use Rattle.ist_core.specs.References.{InnerAt, word_of}
use Rattle.ist_core.specs.Slots.{SlotHolds}
use Rattle.ist_core.specs.StartLayout.{start}
use Rattle.ist_rule.specs.declared.view.View.{View}
use Rattle.ist_core.specs.declared.events.Who.TheVariants.{Caller as CallerOf}
use Rattle.ist_rule.specs.Conditions.{IsResolved}
use Rattle.ist_rule.specs.Going.{SearchedOn, WentOn}
use Rattle.ist_rule.specs.Standings.{HasMade}
use Rattle.ist_rule.specs.Watching.{number_of}
use Rattle.ist_rows.specs.declared.callers.Caller.{Caller}
use Rattle.laws_calls.specs.Walking.{ComesBy}
use Rattle.laws_calls.specs.Counting.{IsOneUpdate, CountsFrom}
use Rattle.ist_find.specs.Searches.{HasCome}
use Rattle.ist_updates.specs.declared.updates.Applied.{Applied}
use Rattle.ist_updates.specs.declared.updates.Due.{Due}
use Rattle.ist_updates.specs.declared.updates.Outcome.{Outcome}
use Rattle.ist_updates.specs.declared.updates.Outcome.TheVariants.{Took, Nothing, Unmet}
use Rattle.ist_updates.specs.Asking.{command_for, IsAsked}
use Rattle.ist_updates.specs.Counting.{WasCounted, CameToLimit}
use Rattle.ist_updates.specs.Refusals.{IsUpdateRefused}
use Rattle.ist_updates.specs.Trying.{Tries, BeganSince, HasFoundNone}

-- ---- one Count

-- the caller may count its update at the row: each change that it installed is resolved
pub record MayCount (v : View) (row : ℕ) : Type 0 where
  pub number : ℕ
  pub mine : v.who ≡ CallerOf number
  pub resolved : IsResolved v number
  pub can : CanCount (start v.start v.words) v.log number row

-- the Count event of an add to the count of a row
abbrev pub counting : View → ℕ → ℕ → Event
counting v row found = Count (number_of v.who) row

-- the caller's only event since the log was one Count at the row; `reached` says whether it brought
-- the row's count to its limit
pub record HasCountedAt (pairs : List Pair) (words : ℕ) (log : Log) (caller row : ℕ) (reached : Bool)
    (longer : Log) : Type 0 where
  pub at : Log
  pub later : Later (CallerOf caller) log at
  pub more : Later (CallerOf caller) (Count caller row ∷ at) longer
  pub inner : InnerRow
  pub published : (state_of pairs words at).pieces row ≡ Some (Inner inner)
  pub yes : reached ≡ true → limit inner.size ≤ inner.count + 1
  pub no : reached ≡ false → ¬ (limit inner.size ≤ inner.count + 1)

-- the event is a Count of the caller at the row
abbrev pub IsCountAt : ℕ → ℕ → Event → Type 0
IsCountAt caller row event = event ≡ Count caller row

-- ---- which row is due

-- this slot of the parent held the row at some moment, and the parent was linked
pub record HasStood (pairs : List Pair) (words : ℕ) (log : Log) (parent index target : ℕ) : Type 0 where
  pub prefix : Log
  pub goes_on : GoesOn prefix log
  pub stood : SlotHolds (state_of pairs words prefix) parent index (word_of (InnerAt target))
  pub linked : WasLinked (start pairs words) log parent

-- this is the topmost row that the caller's counts since the earlier log brought to its limit
pub record IsTopmost (pairs : List Pair) (words : ℕ) (earlier log : Log) (caller : ℕ) (due : Due)
    : Type 0 where
  pub stood : HasStood pairs words log due.parent due.index due.target
  pub row : InnerRow
  pub published : (state_of pairs words log).pieces due.target ≡ Some (Inner row)
  pub is_due : IsDue row
  pub came : CameToLimit pairs words earlier log caller due.target
  pub top : (node : ℕ) → CameToLimit pairs words earlier log caller node
      → WasOnChain (start pairs words) log node due.target

-- the topmost row that is due by these Counts, or none
abbrev pub IsDueBy : List Pair → ℕ → Log → Log → ℕ → Option Due → Type 0
IsDueBy pairs words earlier log caller None =
    (node : ℕ) → ¬ (CameToLimit pairs words earlier log caller node)
IsDueBy pairs words earlier log caller (Some due) = IsTopmost pairs words earlier log caller due

-- ---- the way back

-- a search came to the node through these rows
pub record WasMetBy (pairs : List Pair) (words : ℕ) (log : Log) (node : ℕ) (rows : List ℕ)
    : Type 0 where
  pub key : ℕ
  pub began : ℕ
  pub last : ℕ
  pub comes : ComesBy pairs words log key began last node rows

-- since the earlier log the caller's command took effect, and was counted at each row on its way
-- except these, which are the upper ones
pub record HasCounted (pairs : List Pair) (words : ℕ) (earlier log : Log) (caller : ℕ)
    (command : Command) (rows : List ℕ) (done : Applied) : Type 0 where
  pub base : ℕ
  pub update : IsOneUpdate pairs words earlier log caller base
  pub command_is : command_of update.change ≡ Some command
  pub reply_is : done.reply ≡ reply_of (state_of pairs words log).pieces update.change
  pub below : List ℕ
  pub met : WasMetBy pairs words log update.change.node (rows ++ below)
  pub so_far : GoesOnBy (CountsFrom caller (rows ++ below) (length rows)) earlier log
  pub counted : (row : ℕ) → Among row below → WasCounted earlier log caller row
  pub due : IsDueBy pairs words earlier log caller done.due

-- ---- the walk

-- the caller came here from the first view only by tries, and its call had no effect before that
-- view
pub record HasTriedSince (first v : View) (caller : ℕ) : Type 0 where
  pub went : WentOn Tries first v
  pub none_yet : HasMade first.start first.words first.log caller first.calls

-- the caller made only tries, of which none took effect
pub record IsAskedStill (old new : Caller) (command : Command) : Type 0 where
  pub went : WentOn Tries old.token.view new.token.view
  pub asked : IsAsked new command

-- the same over any number of walks, each from the anchor
pub record IsAskedAgain (old new : Caller) (command : Command) : Type 0 where
  pub went : SearchedOn Tries old.token.view new.token.view
  pub asked : IsAsked new command

-- there is nothing to remove: the search, which began when the first view's did, found no value
pub record IsNotThere (v w : View) (key : ℕ) (value : Option ℕ) : Type 0 where
  pub remove : value ≡ None
  pub found : HasFoundNone w key
  pub since : w.loads.since ≡ v.loads.since

-- what each result of the walk from the node on means: with `None` it must begin again
abbrev pub HasWalked : Caller → ℕ → Option ℕ → ℕ → ℕ → Result (Option Outcome) Full → Caller → Type 0
HasWalked old key value node words (Ok (Some (Took done))) new =
    (first : View) (rows : List ℕ) → HasTriedSince first old.token.view old.number
    → HasCome old.token.view key node rows
    → HasCounted old.token.view.start old.token.view.words first.log new.token.view.log old.number
    (command_for key value) rows done
HasWalked old key value node words (Ok (Some Nothing)) new =
    IsAskedStill old new (command_for key value)
    × IsNotThere old.token.view new.token.view key value
HasWalked old key value node words (Ok None) new = IsAskedStill old new (command_for key value)
HasWalked old key value node words (Ok (Some Unmet)) new = IsAskedStill old new (command_for key value)
HasWalked old key value node words (Err full) new =
    IsAskedStill old new (command_for key value)
    × ((first : View) → BeganSince first old.token.view
    → IsUpdateRefused first key value words full new.token.view)
