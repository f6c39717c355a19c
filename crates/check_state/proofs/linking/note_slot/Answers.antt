use Rattle.std.proofs.Common.{subst}
use Rattle.std.proofs.lemmas.Result.{on_ok_weaker}
use Rattle.ist_core.specs.WordTerms.{logical}
use Rattle.check_builds.specs.Reading.{IsReadingOf}
use Rattle.check_state.specs.Hanging.{Hangs}
use Rattle.check_state.proofs.HangingLemmas as hanging
use Rattle.check_state.proofs.WayToRowLemmas as added
use Rattle.check_state.proofs.linking.note_slot.Goals as goal

pub returns-in-OneRow : goal.returns-in-OneRow
returns-in-OneRow c = record {
  exact = on_ok_weaker c.note_row.result
      (λ exact t h once holds.
      let read = subst (λ r. IsReadingOf r (logical t.pieces c.args.word)) c.in-OneRow.is
      (c.read_slot.ensures.exact t h) in
      exact t h once record { word = c.args.word; holds = holds; reads = read })
      c.note_row.ensures.exact;
}

pub returns-in_default : goal.returns-in_default
returns-in_default c = record {
  exact = λ t h once holds. added.adds_none t c.args.slots.now (Hangs t c.args.node c.args.index)
      (λ under j child. hanging.hangs_nowhere t c.args.node c.args.index under j child
      (λ row is. hanging.no_row_read c.read_slot.result (logical t.pieces c.args.word) row
      c.in_default.not-OneRow (c.read_slot.ensures.exact t h)
      (hanging.child_at t once.anchor_free c.args.node c.args.index c.args.word row holds is)));
}
