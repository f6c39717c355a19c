use Rattle.ist_core.specs.WordTerms.{start}
use Rattle.ist_check.proofs.FinishedLemmas as opening
use Rattle.ist_check.proofs.remembering.open_past.Goals as goal

pub returns-clause-exact : goal.returns-clause-exact
returns-clause-exact c pairs words opens mirrors = record {
  okayed = opening.no_okays c.new.result c.new.ensures.empty;
  called = opening.no_calls pairs words c.new-2.result c.new-2.ensures.empty;
  drawn = opening.no_draws c.new-3.result c.new-3.ensures.empty;
  passed = opening.no_passes c.new-4.result c.new-4.ensures.empty;
  updates = opening.no_updates pairs words c.new-5.result c.new-5.ensures.empty;
  refused = opening.no_refusals pairs words c.new-6.result c.new-6.ensures.empty;
  started = opening.no_starts pairs words c.new-7.result c.new-7.ensures.empty;
  targets = opening.no_targets pairs words c.new-10.result c.new-10.ensures.empty;
  lists = opening.no_lists pairs words c.no_lists.result c.no_lists.ensures.none;
  builds = opening.no_builds _ c.new-8.ensures.empty c.new-9.ensures.empty;
  leaves = opening.no_leaves c.new-11.result c.new-11.ensures.empty (start pairs words);
}
