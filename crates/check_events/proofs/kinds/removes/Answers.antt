use Rattle.std.proofs.Common.{arith}
use Rattle.std.proofs.lemmas.List.{nil_from_length}
use Rattle.ist_core.specs.LogTerms.{state}
use Rattle.check_fairness.proofs.AnswerLemmas.{iff_trans}
use Rattle.check_events.proofs.KindLemmas.{removes_is}
use Rattle.check_events.proofs.kinds.removes.Goals as goal

pub returns : goal.returns
returns c = record {
  exact = λ first log h key.
      let to = c.names_nothing.ensures.exact.0 c.if-not-names_nothing.false in
      let none = nil_from_length c.args.fresh.now (omega arith) in
      iff_trans (c.names_leaf_of.ensures.exact (state first log) h)
      (removes_is first log c.args.change.now c.args.fresh.now key (omega arith)
      (omega arith) none to);
}
