use Rattle.std.proofs.Common.{◌≡◌, arith}
use Rattle.ist_core.specs.WordTerms.{anchor}
use Rattle.check_fairness.proofs.AnswerLemmas.{iff_trans}
use Rattle.check_events.proofs.WayUpLemmas.{child_of_row}
use Rattle.check_events.proofs.climbing.is_child_for.Goals as goal
use Rattle.check_events.proofs.climbing.is_child_for.Goals.{else-node-from-via-then-node-from+else-i-eq0, else-node-from-via-else-node-from}

pub returns : goal.returns
returns c = record {
  exact = λ t h.
      let far : ¬ ((c.args.node ≡ anchor) × (c.args.i ≡ 0)) = λ z.
      elim c.else-node-from.branch [
        | else-node-from-via-then-node-from+else-i-eq0 w ↦ absurd (w.if-i-eq0.false z.1)
        | else-node-from-via-else-node-from w ↦ let e = z.0 in absurd (omega arith)
      ] in
      iff_trans (c.row_has_child_for.ensures.exact t h) (child_of_row t c.args.node c.args.key
      c.args.i far);
}
