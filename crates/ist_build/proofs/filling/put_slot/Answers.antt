use Rattle.std.proofs.Common.{refl}
use Rattle.ist_build.proofs.FewLemmas.{built_mine, none_exchanged}
use Rattle.ist_build.proofs.PartPutLemmas.{may_put, made_slots}
use Rattle.ist_build.proofs.PlaceLemmas.{degree_low, slot_there}
use Rattle.ist_build.proofs.filling.put_slot.Goals as goal

pub slot_place-place-requires : goal.slot_place-place-requires
slot_place-place-requires c = let m = c.requires.made.0 in record {
  within = m.made.within;
  fits = (degree_low _ c.know.ensures.sound _ _ (made_slots _ _ _ _ _ m.made)).0;
}

pub put_part-requires : goal.put_part-requires
put_part-requires c = let m = c.requires.made.0.made in
    let there = slot_there c.know.ensures.sound c.know.ensures.words c.requires.made.1 _ _ _ _
    (made_slots _ _ _ _ _ m) m.within c.slot_place-place.ensures.value in
    (((may_put _ _ _ _ _ m _ c.slot_place-place.ensures.value).allowed, c.requires.made.1), there.0)

pub returns : goal.returns
returns c = let m = c.requires.made.0 in let x = c.put_part.ensures.exchanged in record {
  put = λ old made. (may_put old c.args.who.now c.args.shared c.args.i c.args.word made _
      c.slot_place-place.ensures.value).following c.put_part.new.token c.put_part.result x;
  none = none_exchanged c.args.who.now c.put_part.new.token (built_mine m.old c.args.who.now m.made.has_built)
      _ _ _ _ _ x refl refl;
}
