-- What each step lets its seat know, and how it changes the view.
use Rattle.std.specs.Prelude.{◌≡◌, ℕ, ◌+◌, ◌^◌, ◌<◌, ◌≤◌, ◌≢◌, [], ◌∷◌, ◌++◌, length, Option, Some, None, List}
use Rattle.ist_core.specs.declared.calls.Call.{Call}
use Rattle.ist_core.specs.declared.commands.Command.{Command}
use Rattle.ist_core.specs.declared.events.Event.{Event}
use Rattle.ist_core.specs.declared.events.Event.TheVariants.{Enter}
use Rattle.ist_core.specs.declared.lists.HeldRow.{HeldRow}
use Rattle.ist_core.specs.Changes.{changes_of}
use Rattle.ist_core.specs.Elements.{Among, Each}
use Rattle.ist_core.specs.Standing.{position_after}
use Rattle.ist_core.specs.Snapshots.{Snapshot}
use Rattle.ist_core.specs.Logs.{Log}
use Rattle.ist_core.specs.Lawful.{state_of}
use Rattle.ist_rule.specs.declared.view.View.{View}
use Rattle.ist_core.specs.declared.loads.Load.{Load}
use Rattle.ist_rule.specs.declared.view.Loads.{Loads}
use Rattle.ist_core.specs.declared.events.Who.TheVariants.{Caller}
use Rattle.ist_core.specs.Authors.{Later}
use Rattle.ist_core.specs.Shown.{IsShown}
use Rattle.laws_real_time.specs.declared.moments.Deed.{Deed}
use Rattle.laws_real_time.specs.declared.moments.Deed.TheVariants.{Begins, Returns, GivesUp}
use Rattle.laws_real_time.specs.declared.moments.Moment.{Moment}
use Rattle.laws_real_time.specs.Moments.{Moments, ended}
use Rattle.laws_real_time.specs.Keeping.{moment_now}
use Rattle.ist_rule.specs.Speaking.{number_of, MomentsLater}
use Rattle.ist_rule.specs.Rule.{own_at, IsSound}

-- the state after the log that the seat has seen
abbrev pub now : View → Snapshot
now v = state_of v.start v.words v.log

-- the seat has only made loads: it has seen more events of others, and knows of itself what it knew
pub record GoesOnTo (v w : View) : Type 0 where
  pub later : Later v.who v.log w.log
  pub sound : IsSound w
  pub same : w ≡ record v { log = w.log; loads = w.loads; loaded = w.loaded }
  pub since : w.loads.since ≡ v.loads.since
  pub more : List Load
  pub loads : w.loads.list ≡ more ++ v.loads.list
  pub loaded : v.loaded ≤ w.loaded

-- ---- a load

-- the loads with one more
abbrev pub with_load : Loads → Load → Loads
with_load loads load = record { since = loads.since; list = load ∷ loads.list }

-- the view after a load that gave the word at the place
abbrev pub seeing : View → Log → ℕ → ℕ → View
seeing v log place word =
    record v {
      log = log;
      loads = with_load v.loads record { place = place; word = word; length = length log };
      loaded = v.loaded + 1;
    }

-- the word at the place when the seat had seen its log: the image's, or what the seat stored there
-- itself
pub record Looked (v : View) (place word : ℕ) (w : View) : Type 0 where
  pub later : Later v.who v.log w.log
  pub sound : IsSound w
  pub view : w ≡ seeing v w.log place word
  pub stood : (shown : ℕ) → IsShown (now w) place shown → word ≡ shown
  pub mine : (h : HeldRow) → Among h (now w).held → v.who ≡ Caller h.caller
      → (k : ℕ) → k < h.size → place ≡ h.base + k → word ≡ own_at v.own place
  pub fits : word < 2 ^ 64

-- ---- an event

-- how many callers the maker has entered after the event
abbrev pub made_after : Event → ℕ → ℕ
made_after (Enter caller) made = made + 1
made_after _ made = made

-- the view after an event of its own
abbrev pub logging : View → Log → Event → View
logging v before event = record v { log = event ∷ before; made = made_after event v.made }

-- the event is the last of the log that the seat has seen, and all before it is seen
pub record Logged (v : View) (event : Event) (w : View) : Type 0 where
  pub before : Log
  pub later : Later v.who v.log before
  pub view : w ≡ logging v before event
  pub sound : IsSound w

-- an add found this word, and is the event that is named for it: the last of the log, before which
-- that word was at the place
pub record LoggedAdd (v : View) (named : ℕ → Event) (place found : ℕ) (w : View) : Type 0 where
  pub logged : Logged v (named found) w
  pub stood : (shown : ℕ) → IsShown (state_of v.start v.words logged.before) place shown
      → found ≡ shown

-- the view after a load, or a failed exchange, that is an event of its own
abbrev pub logging_load : View → Log → Event → View
logging_load v before event = record (logging v before event) { loaded = v.loaded + 1 }

-- the event happened at a load that gave this word at the place: it is the last of the log, and all
-- before it is seen
pub record LoggedLoad (v : View) (event : Event) (place word : ℕ) (w : View) : Type 0 where
  pub before : Log
  pub later : Later v.who v.log before
  pub view : w ≡ logging_load v before event
  pub sound : IsSound w
  pub stood : (shown : ℕ) → IsShown (state_of v.start v.words before) place shown → word ≡ shown

-- what a load is, by the log before it and the word that it gives: an event, or none
abbrev pub Naming : Type 0
Naming = Log → ℕ → Option Event

-- a load that is an event if it is named so, and otherwise nothing but a load
pub data LoadedAs (v : View) (named : Naming) (place word : ℕ) (w : View) : Type 0 where
  as_event : (event : Event) (l : LoggedLoad v event place word w)
      → named l.before word ≡ Some event
      → LoadedAs v named place word w
  as_load : Looked v place word w → named w.log word ≡ None → LoadedAs v named place word w

-- an exchange that found `old` is the event, and one that found another word is the other event
abbrev pub ExchangedOrLost : View → Event → Event → ℕ → ℕ → ℕ → View → Type 0
ExchangedOrLost v event lost place old found w =
    (found ≡ old → Logged v event w) × (found ≢ old → LoggedLoad v lost place found w)

-- the same for a pair of events
abbrev pub ExchangedEitherWay : View → Event × Event → ℕ → ℕ → ℕ → View → Type 0
ExchangedEitherWay v events = ExchangedOrLost v events.0 events.1

-- an exchange that found `old` is the event, and one that found another word is a load
abbrev pub Exchanged : View → Event → ℕ → ℕ → ℕ → View → Type 0
Exchanged v event place old found w = (found ≡ old → Logged v event w)
    × (found ≢ old → Looked v place found w)

-- ---- calls

-- the view after a load that changes it
pub record Turned (v : View) (turn : Log → View) (w : View) : Type 0 where
  pub later : Later v.who v.log w.log
  pub view : w ≡ turn w.log
  pub sound : IsSound w

-- what the seat's caller did, when the log was this one
abbrev pub moment_seen : View → Log → Deed → Moment
moment_seen v log deed = moment_now v.start v.words log (number_of v.who) deed

-- the view after a load at which its call began or ended, or a read began: all moments before it are
-- seen, and each call that returned in them has its position among the changes that are seen
pub record TurnedAt (v : View) (turn : Log → Moments → View) (w : View) : Type 0 where
  pub later : Later v.who v.log w.log
  pub before : Moments
  pub since : MomentsLater v.who v.moments before
  pub placed : Each (λ x. position_after x.call ≤ length (changes_of v.start v.words w.log))
      (ended before)
  pub view : w ≡ turn w.log before
  pub sound : IsSound w

-- the view that has begun a call with this command
abbrev pub beginning : View → Option Command → Log → Moments → View
beginning v command log moments =
    let pending = Some record { command = command; length = length log } in
    record v {
      log = log;
      moments = moment_seen v log (Begins command) ∷ moments;
      pending = pending;
      loaded = v.loaded + 1;
    }

-- the view that has begun a search
abbrev pub searching : View → Log → View
searching v log =
    record v {
      log = log;
      loads = record { since = length log; list = [] };
      loaded = v.loaded + 1;
      searches = v.searches + 1;
    }

-- the view that has begun a read, which is a search in no call. It marks its beginning by a call
-- without a command that is given up at once
abbrev pub beginning_read : View → Log → Moments → View
beginning_read v log moments =
    record v {
      log = log;
      moments = moment_seen v log GivesUp ∷ moment_seen v log (Begins None) ∷ moments;
      loads = record { since = length log; list = [] };
      loaded = v.loaded + 1;
      searches = v.searches + 1;
    }

-- the view that has ended its call
abbrev pub ending : View → Call → Log → Moments → View
ending v call log moments =
    let calls = v.calls ++ call ∷ [] in
    record v {
      log = log;
      moments = moment_seen v log (Returns call) ∷ moments;
      calls = calls;
      stamp = call.stamp;
      pending = None;
      loaded = v.loaded + 1;
    }

-- the view that has given up its call
abbrev pub giving_up : View → Log → Moments → View
giving_up v log moments =
    record v {
      log = log;
      moments = moment_seen v log GivesUp ∷ moments;
      pending = None;
      loaded = v.loaded + 1;
    }

-- ---- own words

-- the view that has stored a word into a row of its own
abbrev pub storing : View → ℕ → ℕ → View
storing v place word = record v { own = record { place = place; word = word } ∷ v.own }
