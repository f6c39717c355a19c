use Rattle.std.proofs.Common.{sym, arith}
use Rattle.check_events.proofs.DecisionLemmas.{inner_stands, open_row}
use Rattle.check_events.proofs.nodes.is_open.Goals as goal

pub returns-in-Some : goal.returns-in-Some
returns-in-Some c = record {
  exact = λ t h.
      let stands = inner_stands c.args.replica.now t c.args.node h c.in-Some.row.now
      (sym c.in-Some.ensures.value) in
      open_row t c.args.node c.in-Some.row.now (omega arith) stands;
}
