use Rattle.std.proofs.Common.{[], ◌∷◌, arith}
use Rattle.ist_rows.specs.declared.kinds.Kind.TheVariants.{Pair}
use Rattle.ist_updates.proofs.PairLemmas.{row_filled}
use Rattle.ist_updates.proofs.filling.fill_pair.Goals as goal

-- the words are stored in the row only
pub returns-then-other_key-key-clause-others : goal.returns-then-other_key-key-clause-others
returns-then-other_key-key-clause-others c =
    (row_filled _ _ Pair c.args.base
    (0 ∷ 0 ∷ 2 ∷ 2 ∷ c.args.key ∷ c.to_word-that.result ∷ c.to_word-this.result ∷ [])
    c.know.ensures.sound c.requires.caller.0 c.requires.row (omega arith)
    c.fill_row.ensures.stored).others

pub returns-clause-others : goal.returns-clause-others
returns-clause-others c =
    (row_filled _ _ Pair c.args.base
    (0 ∷ 0 ∷ 2 ∷ 2 ∷ c.args.other_key ∷ c.to_word-this.result ∷ c.to_word-that.result ∷ [])
    c.know.ensures.sound c.requires.caller.0 c.requires.row (omega arith)
    c.fill_row-2.ensures.stored).others
