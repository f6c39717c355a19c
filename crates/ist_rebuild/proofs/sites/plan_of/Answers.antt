use Rattle.ist_rule.proofs.EventLemmas.{goes_on_more}
use Rattle.ist_dcss.proofs.FieldLemmas.{started_rebuild}
use Rattle.ist_rebuild.proofs.SiteLemmas.{parent_small, planned}
use Rattle.ist_rebuild.proofs.sites.plan_of.Goals as goal

-- a started rebuild is published
pub field-parent-requires-clause-published : goal.field-parent-requires-clause-published
field-parent-requires-clause-published c =
    started_rebuild _ c.know.ensures.sound c.args.rebuild c.requires.started

-- its parent is a node
pub overflow_cast-parent : goal.overflow_cast-parent
overflow_cast-parent c = record {
  fits = parent_small _ c.field-parent.ensures.seen.sound c.args.rebuild _
      c.field-parent.ensures.field;
}

pub returns-clause-seen : goal.returns-clause-seen
returns-clause-seen c = goes_on_more _ _ _
    (goes_on_more _ _ _ c.field-parent.ensures.seen c.field-index.ensures.seen)
    c.field-root.ensures.seen

-- the words are the row's
pub returns-clause-plan : goal.returns-clause-plan
returns-clause-plan c =
    planned c.args.token.now.view c.field-root.new.token.view c.know.ensures.sound _
    c.requires.started c.requires.built
    record {
      a = c.field-parent.new.token.view;
      b = c.field-index.new.token.view;
      to_parent = c.field-parent.ensures.seen;
      to_index = c.field-index.ensures.seen;
      to_root = c.field-root.ensures.seen;
      parent_is = c.field-parent.ensures.field;
      index_is = c.field-index.ensures.field;
      root_is = c.field-root.ensures.field;
    }
