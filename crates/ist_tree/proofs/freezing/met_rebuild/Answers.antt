use Rattle.ist_dcss.proofs.FieldLemmas.{started_rebuild}
use Rattle.ist_tree.proofs.FreezeLookLemmas.{stood_met}
use Rattle.ist_tree.proofs.freezing.met_rebuild.Goals as goal

-- a started rebuild is published
pub target_of-target-requires-clause-published : goal.target_of-target-requires-clause-published
target_of-target-requires-clause-published c =
    started_rebuild _ c.know.ensures.sound c.args.rebuild c.requires.row.started

-- the rebuild that stood there is met, by its target
pub returns : goal.returns
returns c = record {
  met = stood_met c.args.who.now c.target_of-target.new.token c.args.rebuild
      c.target_of-target.result c.know.ensures.sound c.requires.ready.0
      c.target_of-target.ensures.seen c.requires.row.started
      c.target_of-target.ensures.target c.requires.row.below c.requires.row.top;
}
