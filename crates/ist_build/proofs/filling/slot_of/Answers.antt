use Rattle.ist_rule.proofs.EventLemmas.{looked_goes_on}
use Rattle.ist_rows.proofs.FewStepLemmas.{none_loads}
use Rattle.ist_build.proofs.BackLemmas.{back_loads}
use Rattle.ist_build.proofs.LeftLemmas.{slot_open}
use Rattle.ist_build.proofs.PartSlotLemmas.{shared_slots, slot_looked, slot_unset}
use Rattle.ist_build.proofs.PlaceLemmas.{degree_low, slot_there}
use Rattle.ist_build.proofs.filling.slot_of.Goals as goal

pub slot_place-requires-clause-fits : goal.slot_place-requires-clause-fits
slot_place-requires-clause-fits c =
    (degree_low _ c.know.ensures.sound _ _ (shared_slots _ _ c.requires.shared)).0

pub load-requires : goal.load-requires
load-requires c =
    let there = slot_there c.know.ensures.sound c.know.ensures.words c.requires.ready.1 _ _ _ _
    (shared_slots _ _ c.requires.shared) c.requires.within c.slot_place.ensures.value in
    record { same_table = c.requires.ready.1; within = there.0; no_walk = there.1 }

pub returns : goal.returns
returns c = let l = c.load.ensures.looked in let slots = shared_slots _ _ c.requires.shared in
    let at = c.slot_place.ensures.value in record {
      back = back_loads c.args.who.now _ c.requires.ready.0 (looked_goes_on _ _ _ _ l);
      none = none_loads c.args.who.now _ c.requires.ready.0.caller.mine (looked_goes_on _ _ _ _ l);
      set = slot_looked _ _ _ _ _ _ _ slots c.requires.within at l;
      vacant = slot_open _ _ _ _ _ _ _ slots c.requires.within at l;
      unset = slot_unset _ _ c.know.ensures.sound _ _ _ _ _ _ slots c.requires.within at l;
    }
