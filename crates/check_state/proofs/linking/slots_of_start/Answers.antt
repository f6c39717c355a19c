use Rattle.std.proofs.Common.{◌≡◌, refl, sym, subst}
use Rattle.ist_core.specs.WordTerms.{anchor, SlotHolds, in_anchor, start}
use Rattle.check_state.specs.Hanging.{AddsSlots, Hangs}
use Rattle.check_state.proofs.YesLemmas.{empty_table, knows_start, once_at_start}
use Rattle.check_state.proofs.linking.slots_of_start.Goals as goal

pub returns : goal.returns
returns c = record {
  exact = λ pairs words opens h. let t = start pairs words in
      let none = empty_table c.new-slots.result c.new-slots.ensures.empty in
      let is : c.from.result ≡ anchor = c.from.ensures in
      let holds =
      subst (λ n. SlotHolds t n 0 c.args.replica.now.anchor) (sym is)
      (in_anchor refl refl (sym h.anchor)) in
      let adds =
      c.in_ok-note_slot.ensures.exact t h (once_at_start pairs words opens c.new-slots.result
      none) holds in
      knows_start pairs words opens c.new-slots.result c.note_slot.new.slots none
      (subst (λ n. AddsSlots c.new-slots.result c.note_slot.new.slots (Hangs t n 0)) is adds);
}
