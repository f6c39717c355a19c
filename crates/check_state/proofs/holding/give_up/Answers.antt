use Rattle.check_state.proofs.holding.give_up.Goals as goal

pub returns : goal.returns
returns c = record {
  exact = λ t h. record {
    words = h.words;
    next = h.next;
    callers = h.callers;
    anchor = h.anchor;
    leaves = h.leaves;
    inners = h.inners;
    changes = h.changes;
    rebuilds = h.rebuilds;
    held = c.let_go.ensures.exact t.held h.held;
  };
}
