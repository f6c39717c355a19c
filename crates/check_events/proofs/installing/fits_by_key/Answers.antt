use Rattle.std.proofs.Common.{inl, inr}
use Rattle.check_fairness.proofs.AnswerLemmas.{always, iff_trans, is_not, never}
use Rattle.check_events.proofs.InstallLemmas.{fits_remove, key_leads}
use Rattle.check_events.proofs.installing.fits_by_key.Goals as goal

pub returns-then-not-comes_by_key : goal.returns-then-not-comes_by_key
returns-then-not-comes_by_key c = record {
  exact = λ first log h k v stay.
      never (λ fits. is_not c.comes_by_key.result _
      (c.comes_by_key.ensures.exact first log h k v stay) c.if-not-comes_by_key.true
      (key_leads first log c.args.change.now c.args.fresh.now fits));
}

pub returns-then-puts_leaf : goal.returns-then-puts_leaf
returns-then-puts_leaf c = record {
  exact = λ first log h k v stay.
      let key = (c.comes_by_key.ensures.exact first log h k v stay).0 c.if-not-comes_by_key.false in
      always (inl ((c.puts_leaf.ensures.exact first log h key).0 c.if-puts_leaf.true));
}

pub returns-then-puts_pair : goal.returns-then-puts_pair
returns-then-puts_pair c = record {
  exact = λ first log h k v stay.
      let key = (c.comes_by_key.ensures.exact first log h k v stay).0 c.if-not-comes_by_key.false in
      always (inr (inl ((c.puts_pair.ensures.exact first log h key).0 c.if-puts_pair.true)));
}

pub returns : goal.returns
returns c = record {
  exact = λ first log h k v stay.
      let key = (c.comes_by_key.ensures.exact first log h k v stay).0 c.if-not-comes_by_key.false in
      iff_trans (c.removes.ensures.exact first log h key)
      (fits_remove first log c.args.change.now c.args.fresh.now
      (is_not c.puts_leaf.result _ (c.puts_leaf.ensures.exact first log h key)
      c.if-puts_leaf.false)
      (is_not c.puts_pair.result _ (c.puts_pair.ensures.exact first log h key)
      c.if-puts_pair.false));
}
