use Rattle.std.proofs.Common.{arith}
use Rattle.ist_core.specs.WordTerms.{Change as ChangePiece, words_of}
use Rattle.ist_rows.specs.declared.kinds.Kind.TheVariants.{Change}
use Rattle.ist_updates.proofs.PairLemmas.{row_filled}
use Rattle.ist_updates.proofs.filling.fill_change.Goals as goal

-- the words are stored in the row only
pub returns : goal.returns
returns c =
    let it = row_filled _ _ Change c.args.base (words_of (ChangePiece c.args.row))
    c.know.ensures.sound c.requires.caller.0 c.requires.row
    (omega arith) c.fill_row.ensures.stored in
    record {
      caller = c.fill_row.ensures.caller;
      same = it.same;
      stands = it.stands;
      others = it.others;
    }
