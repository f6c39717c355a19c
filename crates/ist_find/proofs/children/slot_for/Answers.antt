use Rattle.std.proofs.Common.{refl, sym}
use Rattle.ist_core.specs.WordTerms.{in_anchor}
use Rattle.ist_core.specs.LogTerms.{shown_slot}
use Rattle.ist_rule.proofs.EventLemmas.{looked_goes_on}
use Rattle.ist_find.proofs.children.slot_for.Goals as goal

-- a walk begins at the anchor
pub load_top-word-requires-clause-may_walk : goal.load_top-word-requires-clause-may_walk
load_top-word-requires-clause-may_walk c = c.requires.top c.if-node-eq-ANCHOR.true

-- the anchor's slot held the word that was loaded
pub returns-then-node-eq-ANCHOR-clause-word : goal.returns-then-node-eq-ANCHOR-clause-word
returns-then-node-eq-ANCHOR-clause-word c =
    in_anchor c.if-node-eq-ANCHOR.true refl (sym (c.load_top-word.ensures.looked.stood _ shown_slot))

pub returns-then-node-eq-ANCHOR-clause-seen : goal.returns-then-node-eq-ANCHOR-clause-seen
returns-then-node-eq-ANCHOR-clause-seen c = looked_goes_on _ _ _ _ c.load_top-word.ensures.looked
