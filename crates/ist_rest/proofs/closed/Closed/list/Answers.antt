use Rattle.std.proofs.Common.{◌≡◌, List, length}
use Rattle.ist_core.specs.declared.pairs.Pair.{Pair}
use Rattle.ist_core.specs.TreeTerms.{listed, StandsFor}
use Rattle.ist_core.specs.LogTerms.{Answered}
use Rattle.laws_histories.specs.Telling.{map_now}
use Rattle.ist_rest.specs.RestingWords.{AreListed}
use Rattle.ist_rest.proofs.WholeLemmas.{if_ok_so, stand_hold, listed_of_map}
use Rattle.ist_rest.proofs.closed.Closed.list.Goals as goal

-- standing words hold pairs
pub list_words-requires : goal.list_words-requires
list_words-requires c = record { hold = stand_hold c.args.self.now c.know.ensures.stands }

-- and the pairs of the interval are the map's
pub returns-clause-of_map : goal.returns-clause-of_map
returns-clause-of_map c = let first = c.args.first in let last = c.args.last in
    if_ok_so (λ found. AreListed c.args.self.now first last found.items)
    (λ found. (pairs : List Pair) → (told : List (List Answered))
    → (s : StandsFor c.args.self.now pairs told)
    → found.items ≡ listed first last (map_now pairs (length c.args.self.now) s.log))
    c.list_words.result (λ found h. listed_of_map c.args.self.now first last found.items h)
    c.list_words.ensures.listed
