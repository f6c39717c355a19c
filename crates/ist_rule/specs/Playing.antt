-- What each step lets its seat know, in the form that `atomic_table` asks for.
use Rattle.std.specs.Prelude.{◌≡◌, ℕ, List, Option}
use Rattle.atomic_table.specs.Table.{Me, Step}
use Rattle.ist_core.specs.declared.calls.Call.{Call}
use Rattle.ist_core.specs.declared.commands.Command.{Command}
use Rattle.ist_core.specs.declared.events.Event.{Event}
use Rattle.ist_rule.specs.declared.view.TableName.{TableName}
use Rattle.ist_rule.specs.declared.view.View.{View}
use Rattle.ist_rule.specs.Learning.{Looked, LoggedAdd, LoadedAs, Naming, Exchanged, ExchangedOrLost, Turned, TurnedAt, storing, beginning, searching, beginning_read, ending, giving_up}
use Rattle.ist_rule.specs.Several.{ExchangedAll}

-- a seat: its view, and the slots that it has taken, which are none
abbrev pub Seated : Type 0
Seated = Me (Unit {0}) View

-- what a step learns: the step, the seat before, the number found, and the seat after
abbrev pub Told : Type 1
Told = Step (Unit {0}) → Seated → ℕ → Seated → Type 0

-- a load
abbrev pub looks : Told
looks step me found you = Looked me.0 step.word found you.0 × (you.1 ≡ me.1)

-- a store
abbrev pub stores : Told
stores step me stored you = (you.0 ≡ storing me.0 step.word stored) × (you.1 ≡ me.1)

-- a load at which the seat learns which table it is of
abbrev pub names : TableName → Told
names table step me found you = (you.0 ≡ record me.0 { table = table }) × (you.1 ≡ me.1)

-- an exchange, which is the event if it finds the first number
abbrev pub exchanges : Event → Told
exchanges event step me found you = Exchanged me.0 event step.word step.first found you.0
    × (you.1 ≡ me.1)

-- an exchange, which is all the events if it finds the first number
abbrev pub exchanges_all : List Event → Told
exchanges_all events step me found you = ExchangedAll me.0 events step.word step.first found you.0
    × (you.1 ≡ me.1)

-- an add, which is the event that is named for the word found
abbrev pub adds : (ℕ → Event) → Told
adds event step me found you = LoggedAdd me.0 event step.word found you.0 × (you.1 ≡ me.1)

-- a load that begins a call
abbrev pub begins : Option Command → Told
begins command step me found you = TurnedAt me.0 (beginning me.0 command) you.0 × (you.1 ≡ me.1)

-- a load that begins a search
abbrev pub searches : Told
searches step me found you = Turned me.0 (searching me.0) you.0 × (you.1 ≡ me.1)

-- a load that begins a read
abbrev pub reads : Told
reads step me found you = TurnedAt me.0 (beginning_read me.0) you.0 × (you.1 ≡ me.1)

-- a load that ends a call
abbrev pub ends : Call → Told
ends call step me found you = TurnedAt me.0 (ending me.0 call) you.0 × (you.1 ≡ me.1)

-- a load that gives up a call
abbrev pub gives_up : Told
gives_up step me found you = TurnedAt me.0 (giving_up me.0) you.0 × (you.1 ≡ me.1)

-- a load that is an event if it is named so
abbrev pub loads_as : Naming → Told
loads_as named step me found you = LoadedAs me.0 named step.word found you.0 × (you.1 ≡ me.1)

-- an exchange that is an event either way
abbrev pub exchanges_or_loses : Event × Event → Told
exchanges_or_loses events step me found you =
    ExchangedOrLost me.0 events.0 events.1 step.word step.first found you.0 × (you.1 ≡ me.1)
