use Rattle.std.proofs.Common.{◌∙◌, sym, arith}
use Rattle.check_fairness.proofs.AnswerLemmas.{iff_trans, never}
use Rattle.check_events.proofs.CountLemmas.{counted_lacks, no_change_counts, count_of_last}
use Rattle.check_events.proofs.counting.can_count.Goals as goal

pub returns-in-None : goal.returns-in-None
returns-in-None c = record {
  exact = λ first log h u k w.
      never (counted_lacks first log c.args.caller c.args.node c.args.past.now.updates u _
      c.in-None.ensures.value);
}

pub returns-then-contains : goal.returns-then-contains
returns-then-contains c = record {
  exact = λ first log h u k w. let counted = sym c.contains.ensures ∙ c.if-contains.true in
      never (λ x. (counted_lacks first log c.args.caller c.args.node c.args.past.now.updates u
      _ c.in-Some.ensures.value x).1 counted);
}

pub returns-in-None-get : goal.returns-in-None-get
returns-in-None-get c = record {
  exact = λ first log h u k w.
      never (no_change_counts first log c.args.caller c.args.node c.args.past.now.updates u
      c.args.replica.now c.in-Some.last.now h c.in-Some.ensures.value
      c.in-None-get.ensures.value);
}

pub returns-in-Some-get : goal.returns-in-Some-get
returns-in-Some-get c = record {
  exact = λ first log h u k w. iff_trans (c.was_on_chain.ensures.exact first log k w)
      (count_of_last first log c.args.caller c.args.node c.args.past.now.updates u
      c.args.replica.now c.in-Some.last.now c.in-Some-get.row.now h c.in-Some.ensures.value
      (λ y. cc (y, c.contains.ensures, c.if-contains.false)) c.in-Some-get.ensures.value
      (omega (arith, h.callers)));
}
