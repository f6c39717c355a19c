use Rattle.std.proofs.Common.{arith}
use Rattle.ist_core.specs.LogTerms.{state}
use Rattle.check_fairness.proofs.AnswerLemmas.{iff_trans, is_not, never}
use Rattle.check_events.proofs.KindLemmas.{puts_leaf_is, puts_leaf_not}
use Rattle.check_events.proofs.kinds.puts_leaf.Goals as goal

pub returns-then-not-has_room_for : goal.returns-then-not-has_room_for
returns-then-not-has_room_for c = record {
  exact = λ first log h key.
      let full = is_not c.has_room_for.result _ (c.has_room_for.ensures.exact (state first log)
      h) c.if-not-has_room_for.true in
      never (puts_leaf_not first log c.args.change.now c.args.fresh.now key full);
}

pub returns-in-Some : goal.returns-in-Some
returns-in-Some c = record {
  exact = λ first log h key.
      let room = (c.has_room_for.ensures.exact (state first log) h).0
      c.if-not-has_room_for.false in
      iff_trans c.is_one_row.ensures.exact (puts_leaf_is first log c.args.change.now
      c.args.fresh.now key c.in-Some.leaf (omega arith) room c.in-Some.ensures.exact.0);
}
