use Rattle.std.proofs.Common.{◌+◌, refl, arith}
use Rattle.ist_core.specs.WordTerms.{Leaf}
use Rattle.ist_rule.proofs.EventLemmas.{looked_goes_on}
use Rattle.ist_dcss.proofs.FieldLemmas.{looked_row}
use Rattle.ist_build.proofs.BuiltLemmas.{leaf_goes_on}
use Rattle.ist_build.proofs.PlaceLemmas.{word_there}
use Rattle.ist_build.proofs.building.key_of.Goals as goal

-- the leaf lies within the table
pub load-requires : goal.load-requires
load-requires c =
    let there = word_there c.know.ensures.sound c.know.ensures.words c.requires.leaf.1 _ _
    c.requires.leaf.0.published 0 (c.from.result + 0) (omega arith) (omega (arith, c.from.ensures)) in
    record { same_table = c.requires.leaf.1; within = there.0; no_walk = there.1 }

pub returns-clause-seen : goal.returns-clause-seen
returns-clause-seen c = looked_goes_on _ _ _ _ c.load.ensures.looked

-- the word is its key
pub returns-clause-key : goal.returns-clause-key
returns-clause-key c = λ row e. let from = c.from.ensures in
    looked_row _ _ _ _ c.load.ensures.looked c.args.leaf (Leaf row) 0 row.key
    (leaf_goes_on _ _ (looked_goes_on _ _ _ _ c.load.ensures.looked) c.args.leaf row e) refl
    (omega arith)
