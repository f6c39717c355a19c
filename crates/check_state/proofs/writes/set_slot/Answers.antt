use Rattle.std.proofs.Common.{◌∙◌, sym}
use Rattle.check_state.proofs.PublishLemmas.{anchored, anchor_written, anchor_kept}
use Rattle.check_state.proofs.writes.set_slot.Goals as goal
use Rattle.check_state.proofs.writes.set_slot.Goals.{then-node-from, else-node-from}

pub returns : goal.returns
returns c = record {
  exact = λ t h. c.set_row_slot.ensures.exact (anchored t c.args.node c.args.word)
      (elim c.if-node-from.branch [
        | then-node-from w ↦ anchor_written c.args.replica.now c.if-node-from.replica t
            c.args.node c.args.word h (w.if-node-from.true ∙ c.from.ensures) w.replica-is
        | else-node-from w ↦ anchor_kept c.args.replica.now c.if-node-from.replica t c.args.node
            c.args.word h (λ e. w.if-node-from.false (e ∙ sym c.from.ensures)) w.replica-is
      ]);
}
