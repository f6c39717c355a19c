use Rattle.std.proofs.Common.{subst}
use Rattle.ist_core.specs.WordTerms.{logical}
use Rattle.check_builds.specs.Reading.{IsReadingOf}
use Rattle.check_state.proofs.HangingLemmas.{no_row_read}
use Rattle.check_state.proofs.WaitingLemmas.{puts_link, puts_no_link}
use Rattle.check_state.proofs.linking.put_link.Goals as goal

pub returns-in_ok-push-in-OneRow : goal.returns-in_ok-push-in-OneRow
returns-in_ok-push-in-OneRow c = record {
  exact = λ t h.
      puts_link t c.args.node c.args.index c.args.word c.in-OneRow.child c.args.waiting.now.items
      c.push.new.self.items
      (subst (λ r. IsReadingOf r (logical t.pieces c.args.word)) c.in-OneRow.is
      (c.read_slot.ensures.exact t h))
      c.in_ok-push-in-OneRow.ensures.items;
}

pub returns-in_default : goal.returns-in_default
returns-in_default c = record {
  exact = λ t h. puts_no_link t c.args.node c.args.index c.args.word c.args.waiting.now.items
      (λ child. no_row_read c.read_slot.result (logical t.pieces c.args.word) child
      c.in_default.not-OneRow (c.read_slot.ensures.exact t h));
}
