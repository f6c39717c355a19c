use Rattle.std.proofs.Common.{arith}
use Rattle.check_fairness.proofs.AnswerLemmas.{iff_trans, never, is_zero}
use Rattle.check_events.proofs.MarkLemmas.{passed_none, passed_first, passed_beyond, passed_without}
use Rattle.check_events.proofs.marking.+are_passed.Goals as goal

pub returns-in-empty : goal.returns-in-empty
returns-in-empty t c = record {
  exact = λ u log h k. iff_trans (is_zero c.args.k) (passed_none u log c.args.node
      c.args.i c.args.slots.now c.args.k c.in-empty.len_below);
}

pub returns-in-None : goal.returns-in-None
returns-in-None t c = record {
  exact = λ u log h k. never (passed_without u log c.args.node c.args.i c.args.slots.now
      c.args.k c.in-len1-up.len_at_least (c.in-None.ensures.exact u log h k));
}

pub returns-then-here-k : goal.returns-then-here-k
returns-then-here-k t c = record {
  exact = λ u log h k. let found = c.in-Some.ensures.exact u log h k in
      never (passed_beyond u log c.args.node c.args.i c.args.slots.now c.in-Some.here c.args.k
      c.in-len1-up.len_at_least found.1 (omega arith));
}

pub returns-else-here-k : goal.returns-else-here-k
returns-else-here-k t c = record {
  exact = λ u log h k. let found = c.in-Some.ensures.exact u log h k in
      iff_trans (c.are_passed.ensures.exact u log h k) (passed_first u log c.args.node c.args.i
      c.args.slots.now c.in-Some.here c.args.k c.in-len1-up.len_at_least found.0 found.1
      (omega arith));
}
