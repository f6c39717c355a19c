use Rattle.check_builds.proofs.BuildTableLemmas.{kept_on}
use Rattle.std.proofs.lemmas.Result.{on_ok_weaker}
use Rattle.ist_core.specs.LogTerms.{state_of}
use Rattle.check_builds.proofs.placing.remember_leaves.Goals as goal

pub returns-in-Place : goal.returns-in-Place
returns-in-Place c = record {
  exact = on_ok_weaker c.keep_of_rebuild.result
      (λ kept pairs words log law mirrors known. kept_on pairs words log c.args.event.now law
      c.keep_of_rebuild.new.kept (kept (state_of pairs words log) mirrors known))
      c.keep_of_rebuild.ensures.exact;
}

pub returns-in-Decide : goal.returns-in-Decide
returns-in-Decide c = record {
  exact = λ pairs words log law mirrors known. kept_on pairs words log c.args.event.now law
      c.drop_by_finish.new.kept (c.drop_by_finish.ensures.exact (state_of pairs words log) known);
}

pub returns-in_default : goal.returns-in_default
returns-in_default c = record {
  exact = λ pairs words log law mirrors known. kept_on pairs words log c.args.event.now law
      c.args.kept.now known;
}
