-- A put or a remove that a caller was asked: how it goes on, and what its call may return.
use Rattle.std.specs.Prelude.{◌≡◌, ◌≢◌, ℕ, length, Option, Some, None}
use Rattle.ist_core.specs.declared.calls.Call.{Call}
use Rattle.ist_core.specs.declared.commands.Command.{Command}
use Rattle.ist_core.specs.declared.commands.Command.TheVariants.{Put, Remove}
use Rattle.ist_core.specs.declared.events.Event.{Event}
use Rattle.ist_core.specs.declared.events.Event.TheVariants.{Enter, Install}
use Rattle.ist_core.specs.declared.states.ChangeRow.{ChangeRow}
use Rattle.ist_core.specs.Logs.{Log, GoesOn}
use Rattle.ist_core.specs.Statuses.{start_kind}
use Rattle.ist_core.specs.Writing.{first_change}
use Rattle.laws_histories.specs.Calls.{HasCalls}
use Rattle.ist_rule.specs.declared.view.Pending.{Pending}
use Rattle.ist_rule.specs.Conditions.{IsResolved, CanEnd}
use Rattle.ist_rule.specs.Standings.{HasMade}
use Rattle.ist_rows.specs.declared.callers.Caller.{Caller}
use Rattle.ist_rows.specs.Building.{HasRefused}
use Rattle.ist_rows.specs.Rows.{IsCaller}

-- the put of a value at the key, or without a value the remove of the key
abbrev pub command_for : ℕ → Option ℕ → Command
command_for key (Some value) = Put key value
command_for key None = Remove key

-- the caller is in a call with this command, which began after its earlier calls and has had no
-- effect yet; each change that the caller installed is resolved, and each build of which it holds
-- rows was refused
pub record IsAsked (who : Caller) (command : Command) : Type 0 where
  pub caller : IsCaller who
  pub refused : HasRefused who
  pub pending : Pending
  pub in_call : who.token.view.pending ≡ Some pending
  pub command_is : pending.command ≡ Some command
  pub seen : Log
  pub goes_on : GoesOn seen who.token.view.log
  pub length_is : pending.length ≡ length seen
  pub had : HasCalls who.token.view.start who.token.view.words seen who.number who.token.view.stamp
      who.token.view.calls
  pub resolved : IsResolved who.token.view who.number
  pub none_yet : HasMade who.token.view.start who.token.view.words who.token.view.log who.number
      who.token.view.calls

-- the event is a step of an update, or of its help on the way: it installs no start of a rebuild
abbrev pub Updates : Event → Type 0
Updates (Enter caller) = ⊥
Updates (Install caller base rows) =
    (change : ChangeRow) → first_change rows ≡ Some change → change.kind ≢ start_kind
Updates _ = Unit {0}

-- the caller's call may end with this command and this reply
pub record MayEnd (who : Caller) (command : Command) (reply : Option ℕ) : Type 0 where
  pub call : Call
  pub command_is : call.command ≡ command
  pub reply_is : call.reply ≡ reply
  pub can : CanEnd who.token.view call
