-- The calls of passes weave into one legal history, and a call that was learnt of comes first.
use Rattle.std.specs.Prelude.{ℕ, ◌+◌, ◌≤◌, List, [], ◌∷◌}
use Rattle.ist_core.specs.declared.calls.Call.{Call}
use Rattle.ist_core.specs.declared.pairs.Pair.{Pair}
use Rattle.ist_core.specs.Map.{map_of}
use Rattle.ist_core.specs.Elements.{Each}
use Rattle.ist_core.specs.Logs.{Log, GoesOn}
use Rattle.ist_core.specs.Changes.{changes_of}
use Rattle.ist_core.specs.Lawful.{Lawful}
use Rattle.ist_core.specs.Standing.{Follows, IsFresh}
use Rattle.ist_core.specs.Histories.{PassCalls, StandInPrefixes, woven, IsLegal}
use Rattle.ist_core.specs.Resting.{AllStandIn}
use Rattle.laws_histories.specs.Calls.{HasCalls}

-- passes that are placed in prefixes of one lawful log have one legal history. For two passes that
-- meet, one is placed in its own log and the other in its note's log, and the log after the meeting
-- goes on from both
abbrev pub WovenIsLegal : Type 0
WovenIsLegal =
    (pairs : List Pair) (words : ℕ) (log : Log) → Lawful pairs words log
    → (passes : List PassCalls) → StandInPrefixes pairs words log passes
    → IsLegal (map_of pairs) (woven (changes_of pairs words log) passes)

-- lists of calls as passes, numbered from this number on
abbrev pub numbered : ℕ → List (List Call) → List PassCalls
numbered number [] = []
numbered number (calls ∷ more) =
    record { number = number; calls = calls } ∷ numbered (number + 1) more

-- passes that were taken back have one legal history too, each with its number
abbrev pub TakenBackIsLegal : Type 0
TakenBackIsLegal =
    (pairs : List Pair) (words : ℕ) (log : Log) → Lawful pairs words log
    → (taken : List (List Call)) → AllStandIn pairs words log 0 taken
    → IsLegal (map_of pairs) (woven (changes_of pairs words log) (numbered 0 taken))

-- each call that a pass has learnt of comes before a fresh call: at no higher position, and with a
-- lower stamp. A pass that learns of calls also gets the log and the stamp of their pass, and has
-- seen both from then on
abbrev pub LearntCallsComeFirst : Type 0
LearntCallsComeFirst =
    (pairs : List Pair) (words : ℕ) (earlier seen : Log) (number told stamp : ℕ)
    (calls : List Call) (call : Call)
    → HasCalls pairs words earlier number told calls
    → GoesOn earlier seen → told ≤ stamp → IsFresh pairs words seen stamp call
    → Each (λ learnt. Follows learnt call) calls
