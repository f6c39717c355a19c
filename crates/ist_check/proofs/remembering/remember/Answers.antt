use Rattle.std.proofs.Common.{◌∷◌}
use Rattle.std.proofs.lemmas.Result.{on_ok_weaker}
use Rattle.ist_core.specs.LogTerms.{state_of}
use Rattle.ist_core.proofs.FrozenLemmas as frozen
use Rattle.ist_check.proofs.remembering.remember.Goals as goal

pub returns-clause-exact : goal.returns-clause-exact
returns-clause-exact c = on_ok_weaker c.remember_build.result
    (λ builds pairs words log law mirrors past.
    record {
      okayed = c.in_ok-remember_okay.ensures.exact log past.okayed;
      called = c.in_ok-remember_call.ensures.exact pairs words log law mirrors past.called;
      drawn = c.in_ok-remember_draw.ensures.exact log past.drawn;
      passed = c.in_ok-remember_pass.ensures.exact log (λ node i word other p q. frozen.passes_agree
          pairs words law.opens (c.args.event.now ∷ log) law.enabled node i word other p q)
          past.passed;
      updates = c.in_ok-remember_update.ensures.exact pairs words log law mirrors past.updates;
      refused = c.in_ok-remember_refusal.ensures.exact pairs words log law mirrors past.refused;
      started = c.in_ok-remember_start.ensures.exact pairs words log law mirrors past.started;
      targets = c.in_ok-remember_target.ensures.exact pairs words log law mirrors past.targets;
      lists = c.in_ok-remember_lists.ensures.exact pairs words log law mirrors past.targets
          (c.in_ok-remember_sizes.ensures.exact (state_of pairs words log) past.lists);
      builds = builds log past.builds;
      leaves = c.in_ok-remember_leaves.ensures.exact pairs words log law mirrors past.leaves;
    })
    c.remember_build.ensures.exact

pub returns-clause-few : goal.returns-clause-few
returns-clause-few c = c.remember_build.ensures.few
