use Rattle.std.proofs.Common.{◌↔◌, IsTrue, subst, arith}
use Rattle.ist_core.specs.LogTerms.{state}
use Rattle.ist_core.specs.WordTerms.{SlotHolds}
use Rattle.check_fairness.proofs.AnswerLemmas.{iff_trans, is_not, never}
use Rattle.check_events.proofs.InstallLemmas.{stands_unrefused}
use Rattle.check_events.proofs.installing.may_stand.Goals as goal

pub returns-then-not-slot_holds : goal.returns-then-not-slot_holds
returns-then-not-slot_holds c = record {
  exact = λ first log h k r. let change = c.args.change.now in
      let holds = subst (λ w. IsTrue c.slot_holds.result ↔ SlotHolds (state first log)
      change.node change.index w) c.from.ensures
      (c.slot_holds.ensures.exact (state first log) h) in
      let other = is_not c.slot_holds.result _ holds c.if-not-slot_holds.true in
      never (λ x. other x.in_slot);
}

pub returns : goal.returns
returns c = record {
  exact = λ first log h k r. let change = c.args.change.now in
      let holds = subst (λ w. IsTrue c.slot_holds.result ↔ SlotHolds (state first log)
      change.node change.index w) c.from.ensures
      (c.slot_holds.ensures.exact (state first log) h) in
      iff_trans (c.is_unrefused.ensures.exact (state first log) r)
      (stands_unrefused first log c.args.caller change (omega arith) (omega arith)
      (holds.0 c.if-not-slot_holds.false)
      ((c.was_linked.ensures.exact first log k).0 c.if-not-was_linked.false));
}
