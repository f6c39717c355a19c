-- Lists of calls in one log at rest, each with only keys of its lane: each has the replies that it
-- would have without the others.
use Rattle.std.specs.Prelude.{◌≡◌, ℕ, ◌+◌, ◌%◌, ◌<◌, List, [], ◌∷◌, map, length, slice_index_or}
use Rattle.std.specs.FinMap as fin
use Rattle.ist_core.specs.declared.calls.Call.{Call}
use Rattle.ist_core.specs.declared.commands.Command.{Command}
use Rattle.ist_core.specs.declared.pairs.Pair.{Pair}
use Rattle.ist_core.specs.Map.{map_of, replay}
use Rattle.ist_core.specs.Replies.{Answered}
use Rattle.ist_core.specs.Elements.{Each}
use Rattle.ist_core.specs.Logs.{Log}
use Rattle.ist_core.specs.Lawful.{Lawful, state_of}
use Rattle.ist_core.specs.Histories.{IsLegal}
use Rattle.ist_core.specs.Resting.{AtRest, AllStandIn, told_by_call}
use Rattle.laws_histories.specs.Telling.{map_now}
use Rattle.tele_lanes.specs.Lanes.{lane_of}

-- the log is lawful and at rest: its callers are the passes that were taken back, and list w is
-- what pass w was told
pub record RestsWith (pairs : List Pair) (words : ℕ) (log : Log)
    (told : List (List Answered)) : Type 0 where
  pub lawful : Lawful pairs words log
  pub calls : List (List Call)
  pub told_are : map (map told_by_call) calls ≡ told
  pub at_rest : AtRest (state_of pairs words log) calls
  pub stand : AllStandIn pairs words log 0 calls

-- the lists have only keys of their lanes; the first list is of this lane
abbrev pub KeepToLanes : ℕ → ℕ → List (List Answered) → Type 0
KeepToLanes workers lane [] = Unit {0}
KeepToLanes workers lane (told ∷ more) =
    Each (λ t. lane_of workers t.command ≡ lane) told × KeepToLanes workers (lane + 1) more

-- the commands of what was told
abbrev pub commands_told : List Answered → List Command
commands_told told = map (λ t. t.command) told

-- each list has the replies of its own commands, from the map at the start
abbrev pub ListsAnswerAlone : Type 0
ListsAnswerAlone =
    (pairs : List Pair) (words : ℕ) (log : Log) (told : List (List Answered))
    → RestsWith pairs words log told → KeepToLanes (length told) 0 told
    → Each (IsLegal (map_of pairs)) told

-- after the changes of the log each key has what the commands of its own list leave it
abbrev pub KeysAreLeftAlone : Type 0
KeysAreLeftAlone =
    (pairs : List Pair) (words : ℕ) (log : Log) (told : List (List Answered))
    → RestsWith pairs words log told → KeepToLanes (length told) 0 told → 0 < length told
    → (key : ℕ) (d : List Answered)
    → fin.get (map_now pairs words log) key
    ≡ fin.get
    (replay (map_of pairs) (commands_told (slice_index_or told (key % length told) d))) key
