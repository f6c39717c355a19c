-- The law on runs of workers. `src/laws.rt` lists it.
use Rattle.std.specs.Prelude.{ℕ, List}
use Rattle.ist_core.specs.Replies.{Answered}
use Rattle.ist_map.specs.Running.{HasRunOn, IsOneHistory}

-- a run of workers is one legal history of their calls
abbrev pub RunsAreOneHistory : Type 0
RunsAreOneHistory =
    (first last : List ℕ) (asked left : ℕ) (before after : List (List Answered))
    → HasRunOn first last asked left before after → IsOneHistory first last before after
