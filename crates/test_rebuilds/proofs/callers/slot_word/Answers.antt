use Rattle.std.proofs.Common.{rules, refl, sym}
use Rattle.ist_core.specs.LogTerms.{shown_slot}
use Rattle.ist_core.specs.WordTerms.{in_anchor}
use Rattle.ist_rebuild.proofs.EventLemmas.{loads_helped}
use Rattle.ist_rule.proofs.EventLemmas.{looked_goes_on}
use Rattle.ist_rows.proofs.GoneLemmas.{still_ready}
use Rattle.ist_tree.proofs.FreezeGoingLemmas.{idle_same}
use Rattle.ist_tree.proofs.SearchCountLemmas.{idle_begun}
use Rattle.test_rebuilds.proofs.callers.slot_word.Goals as goal

pub returns-clause-ready : goal.returns-clause-ready
returns-clause-ready c = (
  still_ready (loads_helped _ c.load_top.new.token
      (still_ready (idle_begun c.args.who.now c.args.who.now c.begin_search.new.token
      (idle_same c.args.who.now c.know.ensures.sound c.requires.ready.0) c.begin_search.ensures.begun).on)
      (looked_goes_on _ _ _ _ c.load_top.ensures.looked)).on,
  search rules,
)

-- the slot held the word that was loaded
pub returns-clause-holds : goal.returns-clause-holds
returns-clause-holds c = in_anchor refl refl (sym (c.load_top.ensures.looked.stood _ shown_slot))
