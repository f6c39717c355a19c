-- Words that represent pairs and calls.
use Rattle.std.specs.Prelude.{ℕ, List}
use Rattle.ist_core.specs.declared.pairs.Pair.{Pair}
use Rattle.ist_core.specs.Replies.{Answered}
use Rattle.ist_core.specs.Resting.{StandsFor}

-- the words represent some pairs and some lists of calls
abbrev pub Stands : List ℕ → Type 0
Stands words = (pairs : List Pair) × (told : List (List Answered)) × StandsFor words pairs told
