-- The rebuild that was started is helped to its end, or too few words were left.
use Rattle.ist_tree.proofs.AttemptLemmas.{own_helped, own_short}
use Rattle.ist_tree.proofs.DueLemmas.{helped_either}
use Rattle.ist_tree.proofs.rebuilding.help_own.Goals as goal

pub help_rebuild-requires-clause-started : goal.help_rebuild-requires-clause-started
help_rebuild-requires-clause-started c = c.requires.started.started

pub returns-in-Ok : goal.returns-in-Ok
returns-in-Ok c = record {
  helped = own_helped _ _ c.args.due _ _ c.help_rebuild.ensures.helped c.requires.started
      c.requires.ready.0 (helped_either c.in-Ok.field-0 _ _ c.in-Ok.ensures.replaced
      c.in-Ok.ensures.parent_marked);
}

pub returns-in-Err : goal.returns-in-Err
returns-in-Err c = record {
  helped = own_short _ _ c.args.due _ _ c.help_rebuild.ensures.helped c.requires.started _
      c.in-Err.ensures.full;
}
