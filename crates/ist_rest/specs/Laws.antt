-- The laws on words that represent some pairs and calls. `src/laws.rt` lists them.
use Rattle.std.specs.Prelude.{ℕ, List, [], length}
use Rattle.ist_core.specs.declared.pairs.Pair.{Pair}
use Rattle.ist_core.specs.Map.{pairs_of}
use Rattle.ist_core.specs.Replies.{Answered}
use Rattle.ist_core.specs.StartLayout.{start}
use Rattle.ist_core.specs.Images.{IsImage}
use Rattle.ist_core.specs.Lawful.{CanOpen}
use Rattle.ist_core.specs.Resting.{StandsFor}
use Rattle.laws_histories.specs.Telling.{map_now}
use Rattle.ist_rest.specs.RestingWords.{HoldPairs, AreLawful}

-- words that represent some pairs and calls hold the pairs of the map after the changes of their
-- log
abbrev pub StandingWordsHoldTheMap : Type 0
StandingWordsHoldTheMap =
    (words : List ℕ) (pairs : List Pair) (told : List (List Answered))
    (stands : StandsFor words pairs told)
    → HoldPairs words (pairs_of (map_now pairs (length words) stands.log))

-- words that represent some pairs and calls are lawful at rest: no two rows of them share a word
abbrev pub StandingWordsAreLawful : Type 0
StandingWordsAreLawful =
    (words : List ℕ) (pairs : List Pair) (told : List (List Answered))
    (stands : StandsFor words pairs told)
    → AreLawful words (pairs_of (map_now pairs (length words) stands.log))

-- the words of a new table represent its pairs and no calls
abbrev pub NewWordsStand : Type 0
NewWordsStand =
    (pairs : List Pair) (words : List ℕ) → CanOpen pairs (length words)
    → IsImage (start pairs (length words)) words → StandsFor words pairs []
