-- The target is marked, and then its rebuild is helped.
use Rattle.std.proofs.Common.{rules}
use Rattle.ist_mark.specs.Marking.{Marks}
use Rattle.ist_tree.proofs.DueLemmas.{serves_on}
use Rattle.ist_tree.proofs.FreezeGoingLemmas.{rebuild_on}
use Rattle.ist_tree.proofs.InstallLemmas.{marked, target_froze, target_may_mark}
use Rattle.ist_rows.proofs.GoneLemmas.{still_ready}
use Rattle.ist_tree.proofs.freezing.freeze_target.Goals as goal

pub mark_and_count-keys-requires-clause-may_mark : goal.mark_and_count-keys-requires-clause-may_mark
mark_and_count-keys-requires-clause-may_mark c =
    target_may_mark c.args.who.now c.args.rebuild c.args.target c.requires.ready.0 c.requires.of

-- the caller may help still
pub help_rebuild-requires-clause-ready : goal.help_rebuild-requires-clause-ready
help_rebuild-requires-clause-ready c = (
  still_ready (marked c.args.who.now c.mark_and_count-keys.new.token c.args.target c.requires.ready.0
      c.mark_and_count-keys.ensures.went),
  search rules,
)

pub help_rebuild-requires-clause-started : goal.help_rebuild-requires-clause-started
help_rebuild-requires-clause-started c =
    (rebuild_on (Marks c.mark_and_count-keys.new.token.view c.args.target) _ _
    c.mark_and_count-keys.ensures.went c.args.rebuild c.args.target c.requires.of).started

pub returns : goal.returns
returns c = record {
  froze = target_froze c.args.who.now c.mark_and_count-keys.new.token c.help_rebuild.new.who _
      c.args.rebuild c.args.target c.mark_and_count-keys.result c.requires.ready.0 c.requires.of
      c.mark_and_count-keys.ensures.went c.mark_and_count-keys.ensures.finished
      (serves_on _ _ c.help_rebuild.ensures.helped)
      c.help_rebuild.ensures.helped.on.gone.went c.help_rebuild.result c.err-refused.result
      c.err-refused.ensures.value c.help_rebuild.ensures.replaced
      c.help_rebuild.ensures.parent_marked c.help_rebuild.ensures.full c.help_rebuild.ensures.few;
}
