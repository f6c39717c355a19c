use Rattle.std.proofs.Common.{refl, sym}
use Rattle.ist_core.specs.LogTerms.{shown_slot}
use Rattle.ist_core.specs.WordTerms.{in_anchor}
use Rattle.ist_rule.proofs.EventLemmas.{looked_goes_on}
use Rattle.ist_tree.proofs.freezing.anchor_word.Goals as goal

pub returns-clause-seen : goal.returns-clause-seen
returns-clause-seen c = looked_goes_on _ _ _ _ c.load_top.ensures.looked

-- the slot held the word that was loaded
pub returns-clause-holds : goal.returns-clause-holds
returns-clause-holds c = in_anchor refl refl (sym (c.load_top.ensures.looked.stood _ shown_slot))
