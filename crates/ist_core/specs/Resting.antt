-- A table whose passes were all taken back: what its words mean, and whether all its nodes are open
-- and below their limits.
use Rattle.std.specs.Prelude.{◌≡◌, ℕ, ◌+◌, ◌<◌, List, [], ◌∷◌, map, length, Some}
use Rattle.ist_core.specs.declared.calls.Call.{Call}
use Rattle.ist_core.specs.declared.pairs.Pair.{Pair}
use Rattle.ist_core.specs.declared.states.InnerRow.{InnerRow}
use Rattle.ist_core.specs.Arithmetic.{limit}
use Rattle.ist_core.specs.Statuses.{open_word}
use Rattle.ist_core.specs.Replies.{Answered}
use Rattle.ist_core.specs.Pieces.{Inner}
use Rattle.ist_core.specs.Snapshots.{Snapshot}
use Rattle.ist_core.specs.Images.{IsImage}
use Rattle.ist_core.specs.Logs.{Log}
use Rattle.ist_core.specs.Links.{Linked}
use Rattle.ist_core.specs.Deciding.{AllResolved}
use Rattle.ist_core.specs.Lawful.{Lawful, state_of}
use Rattle.ist_core.specs.Standing.{StandsIn}

-- each linked inner row is open, and has a count below its limit
pub record IsSettled (t : Snapshot) : Type 0 where
  pub all_open : (node : ℕ) (row : InnerRow) → Linked t node → t.pieces node ≡ Some (Inner row)
      → row.status ≡ open_word
  pub none_due : (node : ℕ) (row : InnerRow) → Linked t node → t.pieces node ≡ Some (Inner row)
      → row.count < limit row.size

-- the table is at rest: `taken` has one list of calls for each of its callers
abbrev pub AtRest : Snapshot → List (List Call) → Type 0
AtRest t taken = t.callers ≡ length taken

-- the command of a call, and the reply to it
abbrev pub told_by_call : Call → Answered
told_by_call call = record { command = call.command; reply = call.reply }

-- each list of calls is placed in the log, as the calls of the pass with its number; the first list
-- has this number
abbrev pub AllStandIn : List Pair → ℕ → Log → ℕ → List (List Call) → Type 0
AllStandIn pairs words log number [] = Unit {0}
AllStandIn pairs words log number (calls ∷ more) =
    StandsIn pairs words log number calls × AllStandIn pairs words log (number + 1) more

-- what the words of a table at rest mean: some lawful log from these pairs results in these words,
-- every change that it installed is resolved, and list number w is what the pass with number w got
-- for its calls. No row is used twice, so the words still hold the row of every change that was
-- made
pub record StandsFor (words : List ℕ) (pairs : List Pair) (told : List (List Answered)) : Type 0 where
  pub log : Log
  pub lawful : Lawful pairs (length words) log
  pub image : IsImage (state_of pairs (length words) log) words
  pub resolved : AllResolved (state_of pairs (length words) log) log
  pub calls : List (List Call)
  pub told_are : map (map told_by_call) calls ≡ told
  pub at_rest : AtRest (state_of pairs (length words) log) calls
  pub stand : AllStandIn pairs (length words) log 0 calls
