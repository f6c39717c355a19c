use Rattle.ist_tree.proofs.FreezeLookLemmas.{row_may_start}
use Rattle.test_rebuilds.proofs.callers.see_row.Goals as goal
use Rattle.ist_layout.proofs.MeaningLemmas.{word_names}

pub returns-in-Some-Inner-clause-may_start : goal.returns-in-Some-Inner-clause-may_start
returns-in-Some-Inner-clause-may_start c =
    row_may_start _ c.know.ensures.sound _ c.slot_word-word.ensures.holds _
    (word_names _ _ _ _ c.from_word.ensures.value c.in-Some-Inner.is c.in-Some-Inner.field-0-is)
