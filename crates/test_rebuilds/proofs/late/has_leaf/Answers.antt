use Rattle.std.proofs.Common.{◌∙◌}
use Rattle.ist_core.specs.TreeTerms.{same_key}
use Rattle.ist_rule.proofs.EventLemmas.{goes_on_same}
use Rattle.test_rebuilds.proofs.late.has_leaf.Goals as goal
use Rattle.ist_layout.proofs.MeaningLemmas.{word_names}

-- a leaf of the key leaves room for it
pub returns-clause-room : goal.returns-clause-room
returns-clause-room c is = let k = c.leaf_key-found.ensures.key in same_key c.in-Some-Leaf.base
    (word_names _ _ _ _ c.from_word.ensures.value c.in-Some-Leaf.is c.in-Some-Leaf.field-0-is)
    record { row = k.row; published = k.published; key_is = k.key_is ∙ c.if-found-key.false }

-- if there is no leaf, nothing was loaded
pub returns-in_default-clause-seen : goal.returns-in_default-clause-seen
returns-in_default-clause-seen c = goes_on_same _ c.know.ensures.sound
