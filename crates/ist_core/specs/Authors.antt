-- Which caller makes which event, and logs that continue by certain events only, such as events of
-- others.
use Rattle.std.specs.Prelude.{◌≢◌, ◌⊎◌, [], ◌∷◌}
use Rattle.ist_core.specs.declared.events.Event.{Event}
use Rattle.ist_core.specs.declared.events.Event.TheVariants.{Count, Decide, Draw, Enter, Finish, Install, Lose, Mark, Okay, Pass, Place, Reserve, Resolve, Root}
use Rattle.ist_core.specs.declared.events.Who.{Who}
use Rattle.ist_core.specs.declared.events.Who.TheVariants.{Caller, Maker}
use Rattle.ist_core.specs.Logs.{Log}

-- who makes the event: the maker of the table makes an Enter, its caller makes any other
abbrev pub whose : Event → Who
whose (Enter caller) = Maker
whose (Reserve caller base size) = Caller caller
whose (Install caller change rows) = Caller caller
whose (Okay caller change) = Caller caller
whose (Decide caller change said) = Caller caller
whose (Resolve caller change) = Caller caller
whose (Count caller node) = Caller caller
whose (Mark caller node) = Caller caller
whose (Pass caller node i word) = Caller caller
whose (Finish caller node keys) = Caller caller
whose (Root caller rebuild word rows) = Caller caller
whose (Draw caller rebuild part) = Caller caller
whose (Place caller rebuild i word rows) = Caller caller
whose (Lose caller bases) = Caller caller

-- the log continues an earlier one by events that satisfy P
pub data GoesOnBy (P : Event → Type 0) (earlier : Log) : Log → Type 0 where
  no_more : GoesOnBy P earlier earlier
  one_more : {log : Log} (event : Event) → GoesOnBy P earlier log → P event
      → GoesOnBy P earlier (event ∷ log)

-- the log continues an earlier one by events of others only
abbrev pub Later : Who → Log → Log → Type 0
Later who = GoesOnBy (λ event. whose event ≢ who)

-- the log continues an earlier one by events of others, and by own events that satisfy P
abbrev pub LaterBy : Who → (Event → Type 0) → Log → Log → Type 0
LaterBy who P = GoesOnBy (λ event. (whose event ≢ who) ⊎ P event)

-- no event of the log is made by this one
abbrev pub IsIdleIn : Who → Log → Type 0
IsIdleIn who [] = Unit {0}
IsIdleIn who (event ∷ log) = (whose event ≢ who) × IsIdleIn who log
