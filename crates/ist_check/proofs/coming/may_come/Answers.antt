use Rattle.std.proofs.Common.{◌∙◌, sym, ap}
use Rattle.std.proofs.lemmas.Result.{IfOk-weaker}
use Rattle.ist_core.specs.declared.events.Event.TheVariants.{Install}
use Rattle.ist_core.specs.WordTerms.{start}
use Rattle.check_state.proofs.WayTableLemmas.{keys_stay}
use Rattle.ist_check.proofs.StandingLemmas.{enabled_by, of_build}
use Rattle.ist_check.proofs.coming.may_come.Goals as goal

pub returns-in-Enter : goal.returns-in-Enter
returns-in-Enter c = record {
  exact = λ pairs words log knows. enabled_by pairs words log (sym c.in-Enter.is) _
      (c.can_enter.ensures.exact _ knows.mirrors);
}

pub returns-in-Install : goal.returns-in-Install
returns-in-Install c = record {
  exact = λ pairs words log knows. enabled_by pairs words log
      (ap (Install c.in-Install.caller c.in-Install.change) c.as_slice.ensures.value
      ∙ sym c.in-Install.is) _
      (c.can_install.ensures.exact (start pairs words) log knows.mirrors knows.slots knows.ways
      knows.remembers.refused knows.remembers.started (keys_stay pairs words log knows.lawful));
}

pub returns-in_default : goal.returns-in_default
returns-in_default c = let o = c.in_default in record {
  exact = IfOk-weaker c.may_build.result _ _
      (λ may exact pairs words log knows. exact pairs words log knows
      (of_build c.args.event.now o.not-Enter o.not-Reserve o.not-Install o.not-Okay o.not-Decide
      o.not-Resolve o.not-Count o.not-Mark o.not-Pass o.not-Finish))
      c.may_build.ensures.exact;
}
