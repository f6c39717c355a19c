use Rattle.std.proofs.Common.{arith}
use Rattle.ist_build.proofs.PartPutLemmas.{slot_built}
use Rattle.ist_build.proofs.PartSlotLemmas.{shared_share}
use Rattle.ist_build.proofs.FewLemmas.{target_few, many_two}
use Rattle.ist_build.proofs.filling.build_slot.Goals as goal

pub part-share-requires : goal.part-share-requires
part-share-requires c = let sh = c.requires.shared in
    let few = target_few _ c.know.ensures.sound _ _ sh.is.finished in record {
      several = many_two _ sh.is.shared;
      fits = omega arith;
      within = omega (arith, sh.degree_is, c.requires.within);
    }

pub build_share-requires-clause-share : goal.build_share-requires-clause-share
build_share-requires-clause-share c =
    shared_share _ c.args.shared c.args.i _ _ c.requires.shared c.requires.within
    c.part-share.ensures.start c.part-share.ensures.len

-- the part is made, or the build was refused
pub returns : goal.returns
returns c = let e = c.build_share.ensures in let p = c.part-share.ensures in
    let b = slot_built c.args.who.now c.build_share.new.who c.args.shared c.args.i _ _ _
    record {
      ready = c.requires.ready.0;
      sound = c.know.ensures.sound;
      number = e.number;
      rows = e.rows;
      built = e.built;
    }
    e.caller c.requires.shared c.requires.within c.requires.unset p.start p.len p.fewer
    c.build_share.result e.laid e.at e.few e.full e.refused in
    record { made = b.made; few = b.few; back = b.back; full = b.full }
