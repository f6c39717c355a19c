use Rattle.std.proofs.Common.{rules}
use Rattle.ist_build.specs.Calls.{Builds}
use Rattle.ist_rebuild.proofs.EventLemmas.{built_helped}
use Rattle.ist_rebuild.proofs.RefusalLemmas.{buildable_went}
use Rattle.ist_rows.proofs.GoneLemmas.{still_ready}
use Rattle.test_rebuilds.proofs.callers.set.Goals as goal

pub returns-clause-ready : goal.returns-clause-ready
returns-clause-ready c = (
  still_ready (built_helped c.args.who.now c.set_root.new.who c.requires.ready.0
      c.set_root.ensures.caller
      c.set_root.ensures.refused c.set_root.ensures.number c.set_root.ensures.rows
      c.set_root.ensures.went).on,
  search rules,
)

pub returns-clause-buildable : goal.returns-clause-buildable
returns-clause-buildable c =
    buildable_went Builds _ _ c.set_root.ensures.went c.args.rebuild c.requires.buildable

pub returns-clause-started : goal.returns-clause-started
returns-clause-started c =
    (buildable_went Builds _ _ c.set_root.ensures.went c.args.rebuild
    c.requires.buildable).told.started
