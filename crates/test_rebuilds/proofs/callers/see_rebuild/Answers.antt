use Rattle.ist_tree.proofs.FreezeLookLemmas.{rebuild_started}
use Rattle.test_rebuilds.proofs.callers.see_rebuild.Goals as goal
use Rattle.ist_layout.proofs.MeaningLemmas.{word_names}

pub returns-in-Some-Rebuild-clause-started : goal.returns-in-Some-Rebuild-clause-started
returns-in-Some-Rebuild-clause-started c =
    rebuild_started _ c.know.ensures.sound _ c.slot_word-word.ensures.holds _
    (word_names _ _ _ _ c.from_word.ensures.value c.in-Some-Rebuild.is c.in-Some-Rebuild.field-0-is)
