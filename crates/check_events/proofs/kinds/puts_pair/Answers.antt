use Rattle.std.proofs.Common.{arith}
use Rattle.ist_core.specs.LogTerms.{state}
use Rattle.check_fairness.proofs.AnswerLemmas.{iff_trans, never}
use Rattle.check_events.proofs.KindLemmas.{puts_pair_is, puts_pair_none, puts_pair_same}
use Rattle.check_events.proofs.kinds.puts_pair.Goals as goal

pub returns-in-None-leaf_key : goal.returns-in-None-leaf_key
returns-in-None-leaf_key c = record {
  exact = λ first log h key.
      never (puts_pair_none first log c.args.change.now c.args.fresh.now key c.in-Some.other
      c.in-Some.ensures.exact.0 (c.in-None-leaf_key.ensures.exact (state first log) h));
}

pub returns-then-key-change : goal.returns-then-key-change
returns-then-key-change c = record {
  exact = λ first log h key. let found = c.in-Some-leaf_key.ensures.exact (state first log) h in
      never (puts_pair_same first log c.args.change.now c.args.fresh.now key c.in-Some.other
      c.in-Some-leaf_key.key c.in-Some.ensures.exact.0 found.1 c.if-key-change.true);
}

pub returns-else-key-change : goal.returns-else-key-change
returns-else-key-change c = record {
  exact = λ first log h key. let found = c.in-Some-leaf_key.ensures.exact (state first log) h in
      iff_trans c.pairs_with.ensures.exact (puts_pair_is first log c.args.change.now
      c.args.fresh.now key c.in-Some.other c.in-Some-leaf_key.key (omega arith)
      c.in-Some.ensures.exact.0 found.0 found.1 (omega arith));
}
