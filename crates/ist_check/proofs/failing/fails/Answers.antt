use Rattle.std.proofs.Common.{◌∙◌, sym, ap}
use Rattle.std.proofs.lemmas.Result.{IfOk-weaker}
use Rattle.ist_core.specs.declared.events.Event.TheVariants.{Install}
use Rattle.ist_core.specs.WordTerms.{start}
use Rattle.ist_core.specs.LogTerms.{state_of}
use Rattle.check_state.proofs.WayTableLemmas.{keys_stay}
use Rattle.ist_check.proofs.StandingLemmas.{of_build, tells_by}
use Rattle.ist_check.proofs.failing.fails.Goals as goal

pub returns-in-Enter : goal.returns-in-Enter
returns-in-Enter c = record {
  exact = λ pairs words log knows. tells_by pairs words log (sym c.in-Enter.is) _
      (c.enter_fails.ensures.exact (state_of pairs words log) knows.mirrors);
}

pub returns-in-Reserve : goal.returns-in-Reserve
returns-in-Reserve c = record {
  exact = IfOk-weaker c.reserve_fails.result _ _
      (λ fails exact pairs words log knows. tells_by pairs words log (sym c.in-Reserve.is) fails
      (exact (state_of pairs words log) knows.mirrors knows.remembers.lists))
      c.reserve_fails.ensures.exact;
}

pub returns-in-Install : goal.returns-in-Install
returns-in-Install c = record {
  exact = λ pairs words log knows. tells_by pairs words log
      (ap (Install c.in-Install.caller c.in-Install.change) c.as_slice.ensures.value
      ∙ sym c.in-Install.is) _
      (c.install_fails.ensures.exact (start pairs words) log knows.mirrors knows.slots knows.ways
      knows.remembers.refused knows.remembers.started (keys_stay pairs words log knows.lawful));
}

pub returns-in-Okay : goal.returns-in-Okay
returns-in-Okay c = record {
  exact = λ pairs words log knows. tells_by pairs words log (sym c.in-Okay.is) _
      (c.okay_fails.ensures.exact (state_of pairs words log) knows.mirrors);
}

pub returns-in-Decide : goal.returns-in-Decide
returns-in-Decide c = record {
  exact = λ pairs words log knows. tells_by pairs words log (sym c.in-Decide.is) _
      (c.decide_fails.ensures.exact (state_of pairs words log) log knows.mirrors
      knows.remembers.okayed);
}

pub returns-in-Resolve : goal.returns-in-Resolve
returns-in-Resolve c = record {
  exact = λ pairs words log knows. tells_by pairs words log (sym c.in-Resolve.is) _
      (c.resolve_fails.ensures.exact (state_of pairs words log) knows.mirrors);
}

pub returns-in-Count : goal.returns-in-Count
returns-in-Count c = record {
  exact = λ pairs words log knows. tells_by pairs words log (sym c.in-Count.is) _
      (c.count_fails.ensures.exact (start pairs words) log knows.mirrors knows.remembers.updates
      knows.slots knows.ways);
}

pub returns-in-Mark : goal.returns-in-Mark
returns-in-Mark c = record {
  exact = λ pairs words log knows. tells_by pairs words log (sym c.in-Mark.is) _
      (c.mark_fails.ensures.exact (state_of pairs words log) log knows.mirrors
      knows.remembers.called);
}

pub returns-in-Pass : goal.returns-in-Pass
returns-in-Pass c = record {
  exact = λ pairs words log knows. tells_by pairs words log (sym c.in-Pass.is) _
      (c.pass_fails.ensures.exact (state_of pairs words log) knows.mirrors);
}

pub returns-in-Finish : goal.returns-in-Finish
returns-in-Finish c = record {
  exact = λ pairs words log knows. tells_by pairs words log (sym c.in-Finish.is) _
      (c.finish_fails.ensures.exact (state_of pairs words log) log knows.mirrors
      knows.remembers.passed);
}

pub returns-in_default : goal.returns-in_default
returns-in_default c = let o = c.in_default in record {
  exact = IfOk-weaker c.build_fails.result _ _
      (λ fails exact pairs words log knows. exact pairs words log knows
      (of_build c.args.event.now o.not-Enter o.not-Reserve o.not-Install o.not-Okay o.not-Decide
      o.not-Resolve o.not-Count o.not-Mark o.not-Pass o.not-Finish))
      c.build_fails.ensures.exact;
}
