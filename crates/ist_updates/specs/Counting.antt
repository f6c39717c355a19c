-- At which rows an update was counted, and which row it made due.
use Rattle.std.specs.Prelude.{◌≡◌, ◌≢◌, ◌≤◌, ℕ, ◌+◌, List, ◌∷◌, Option, Some, None}
use Rattle.ist_core.specs.declared.pairs.Pair.{Pair}
use Rattle.ist_core.specs.Lawful.{state_of}
use Rattle.ist_core.specs.declared.commands.Command.{Command}
use Rattle.ist_core.specs.declared.states.ChangeRow.{ChangeRow}
use Rattle.ist_core.specs.Changes.{command_of}
use Rattle.ist_core.specs.Elements.{Among}
use Rattle.ist_core.specs.Links.{WasOnChain}
use Rattle.ist_core.specs.Logs.{Log, GoesOn}
use Rattle.ist_core.specs.declared.events.Event.TheVariants.{Count}
use Rattle.ist_core.specs.Pieces.{Inner, Change}
use Rattle.ist_core.specs.Rebuilding.{IsDue}
use Rattle.ist_core.specs.declared.states.InnerRow.{InnerRow}
use Rattle.ist_core.specs.Arithmetic.{limit}
use Rattle.ist_core.specs.StartLayout.{start}
use Rattle.ist_core.specs.Statuses.{decided_yes}
use Rattle.ist_rule.specs.declared.view.View.{View}
use Rattle.laws_calls.specs.Walking.{IsChainOf}
use Rattle.ist_rebuild.specs.Starting.{MayStart}
use Rattle.ist_updates.specs.declared.updates.Due.{Due}

-- ---- counts

-- the caller counted at the node after the earlier log
pub record WasCounted (earlier log : Log) (caller node : ℕ) : Type 0 where
  pub at : Log
  pub since : GoesOn earlier at
  pub until : GoesOn (Count caller node ∷ at) log

-- the caller counted at no node after the earlier log
abbrev pub CountedNowhere : Log → Log → ℕ → Type 0
CountedNowhere earlier log caller = (node : ℕ) → ¬ (WasCounted earlier log caller node)

-- the caller's update was decided yes after the earlier log, and was counted since then at each row of
-- its chain
pub record IsCounted (pairs : List Pair) (words : ℕ) (earlier log : Log) (caller : ℕ) (command : Command)
    : Type 0 where
  pub base : ℕ
  pub change : ChangeRow
  pub published : (state_of pairs words log).pieces base ≡ Some (Change change)
  pub owned : change.owner ≡ caller
  pub command_is : command_of change ≡ Some command
  pub decision : change.decision ≡ decided_yes
  pub since : (old : ChangeRow) → (state_of pairs words earlier).pieces base ≡ Some (Change old)
      → old.decision ≢ decided_yes
  pub rows : List ℕ
  pub chain : IsChainOf pairs words log change.node rows
  pub counted : (row : ℕ) → Among row rows → WasCounted earlier log caller row

-- ---- due rows

-- a Count of the caller after the earlier log brought the node's count to its limit
pub record CameToLimit (pairs : List Pair) (words : ℕ) (earlier log : Log) (caller node : ℕ)
    : Type 0 where
  pub at : Log
  pub since : GoesOn earlier at
  pub until : GoesOn (Count caller node ∷ at) log
  pub row : InnerRow
  pub published : (state_of pairs words at).pieces node ≡ Some (Inner row)
  pub reached : limit row.size ≤ row.count + 1

-- the row is the topmost that the counts of the update brought to its limit: it is on the chain of
-- each such row; a rebuild of it may be started
pub record HasMadeDue (v w : View) (caller parent index target : ℕ) : Type 0 where
  pub may : MayStart w parent index target
  pub due : IsDue may.row
  pub came : CameToLimit v.start v.words v.log w.log caller target
  pub top : (node : ℕ) → CameToLimit v.start v.words v.log w.log caller node
      → WasOnChain (start v.start v.words) w.log node target

-- the topmost row that the counts of the update made due, or none
abbrev pub LeavesDue : View → View → ℕ → Option Due → Type 0
LeavesDue v w caller None = (node : ℕ) → ¬ (CameToLimit v.start v.words v.log w.log caller node)
LeavesDue v w caller (Some due) = HasMadeDue v w caller due.parent due.index due.target
