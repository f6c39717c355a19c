-- The leaf with the number: one below the row, or the leaf that the root is.
use Rattle.ist_rule.proofs.EventLemmas.{goes_on_same}
use Rattle.std.proofs.Common.{ap, arith}
use Rattle.ist_layout.specs.Meanings.{ref_meant}
use Rattle.ist_tree.proofs.FewFreezeLemmas.{leaf_itself, leaf_numbered}
use Rattle.ist_tree.proofs.freezing.frozen_leaf.Goals as goal

pub returns-in-Inner-clause-leaf : goal.returns-in-Inner-clause-leaf
returns-in-Inner-clause-leaf c =
    leaf_numbered _ c.know.ensures.sound _ _ c.in-Inner.base c.args.i _ _ c.requires.frozen
    (ap ref_meant c.in-Inner.is) c.leaf_and_loads-leaf.ensures.leaf c.base_of.ensures.leaf

pub returns-in_default : goal.returns-in_default
returns-in_default c = record {
  seen = goes_on_same _ c.know.ensures.sound;
  leaf = leaf_itself _ c.args.frozen.root _ c.args.i _ c.requires.frozen c.requires.within
      c.in_default.not-Inner c.base_of-in_default.ensures.leaf;
  counted = omega arith;
  fits = omega arith;
}
