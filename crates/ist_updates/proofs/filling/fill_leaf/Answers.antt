use Rattle.std.proofs.Common.{[], ◌∷◌, arith}
use Rattle.ist_rows.specs.declared.kinds.Kind.TheVariants.{Leaf}
use Rattle.ist_updates.proofs.PairLemmas.{row_filled}
use Rattle.ist_updates.proofs.filling.fill_leaf.Goals as goal

-- the words are stored in the row only
pub returns : goal.returns
returns c =
    let it = row_filled _ _ Leaf c.args.base (c.args.row.key ∷ c.args.row.value ∷ [])
    c.know.ensures.sound c.requires.caller.0 c.requires.row
    (omega arith) c.fill_row.ensures.stored in
    record {
      caller = c.fill_row.ensures.caller;
      same = it.same;
      stands = it.stands;
      others = it.others;
    }
