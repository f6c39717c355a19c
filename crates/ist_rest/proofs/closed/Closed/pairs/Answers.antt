use Rattle.std.proofs.Common.{◌≡◌, List, length}
use Rattle.ist_core.specs.declared.pairs.Pair.{Pair}
use Rattle.ist_core.specs.TreeTerms.{pairs_of, StandsFor}
use Rattle.ist_core.specs.LogTerms.{Answered}
use Rattle.laws_histories.specs.Telling.{map_now}
use Rattle.ist_rest.specs.RestingWords.{HoldPairs}
use Rattle.ist_rest.proofs.WholeLemmas.{if_ok_so, stand_hold, pairs_of_map}
use Rattle.ist_rest.proofs.closed.Closed.pairs.Goals as goal

-- standing words hold pairs
pub all_words-requires : goal.all_words-requires
all_words-requires c = record { hold = stand_hold c.args.self.now c.know.ensures.stands }

-- and these are the map's
pub returns-clause-of_map : goal.returns-clause-of_map
returns-clause-of_map c = if_ok_so (λ found. HoldPairs c.args.self.now found.items)
    (λ found. (pairs : List Pair) → (told : List (List Answered))
    → (s : StandsFor c.args.self.now pairs told)
    → found.items ≡ pairs_of (map_now pairs (length c.args.self.now) s.log))
    c.all_words.result (λ found h. pairs_of_map c.args.self.now found.items h)
    c.all_words.ensures.held
