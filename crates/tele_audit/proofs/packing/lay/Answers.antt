use Rattle.std.proofs.Common.{◌+◌, ◌∙◌, ap, length, arith, List}
use Rattle.ist_core.specs.declared.pairs.Pair.{Pair}
use Rattle.ist_core.specs.TreeTerms.{map_of}
use Rattle.ist_core.proofs.AllPlaceLemmas.{length-pairs_of}
use Rattle.tele_audit.proofs.PackLemmas.{can_open, table_laid, lawful_new}
use Rattle.tele_audit.proofs.packing.lay.Goals as goal
use Rattle.tele_audit.proofs.packing.lay.Goals.{After-ideal_words}

-- there are as many pairs as keys
pub ideal_words-requires : goal.ideal_words-requires
ideal_words-requires c = let all = ap (λ (ps : List Pair). length ps) c.pairs-pairs.ensures.all in
    let of_map = ap (λ (ps : List Pair). length ps) c.pairs-pairs.ensures.of_map in
    record { fits = omega (arith, all, of_map, length-pairs_of (map_of c.args.plain.now), c.requires.few) }

-- a table may begin with them
pub lay_image-requires : goal.lay_image-requires
lay_image-requires c = let pairs = c.pairs-pairs.ensures in record {
  opens = can_open _ _ (map_of c.args.plain.now) _ _ pairs.all pairs.of_map pairs.rising
      c.requires.few c.from.ensures c.ideal_words.ensures.value c.ideal_words.ensures.most;
}

-- its words are the words of a new table
pub returns-clause-table : goal.returns-clause-table
returns-clause-table c =
    table_laid _ (map_of c.args.plain.now) _ (c.from.result + c.ideal_words.result)
    (c.pairs-pairs.ensures.all ∙ c.pairs-pairs.ensures.of_map)
    (lay_image-requires (goal.at.returns-clause-table c).After-ideal_words).opens
    (omega (arith, c.from.ensures, c.ideal_words.ensures.value))
    c.in_ok-words.ensures.size c.in_ok-words.ensures.image c.know_fit.ensures.fit

-- and lawful at rest
pub returns-clause-lawful : goal.returns-clause-lawful
returns-clause-lawful c = (
  _,
  lawful_new c.standing_words_hold_the_map.ensures.lawful (map_of c.args.plain.now)
      c.in_ok-words.words.items (returns-clause-table c),
)
