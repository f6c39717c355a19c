use Rattle.std.proofs.Common.{refl, arith}
use Rattle.check_state.proofs.WayToRowLemmas.{top_is}
use Rattle.check_state.proofs.ways.top_way.Goals as goal

pub returns : goal.returns
returns c = record {
  exact = λ first log stay slots row k e.
      top_is first log slots k stay c.args.index row _ (omega arith) e refl refl c.from.ensures;
}
