use Rattle.std.proofs.Common.{refl}
use Rattle.ist_updates.proofs.MissLemmas.{leaf_missed}
use Rattle.ist_updates.proofs.PlanLemmas.{slot_loads}
use Rattle.ist_updates.proofs.TriedLemmas.{loads_asked, slot_leaf}
use Rattle.ist_updates.proofs.TriedWalkLemmas.{replied_met, replied_unmissed}
use Rattle.ist_updates.proofs.TryResultLemmas.{loads_tried, unmet_tried}
use Rattle.ist_updates.proofs.trying.try_leaf.Goals as goal

-- the leaf is published
pub read_leaf-leaf-requires-clause-leaf : goal.read_leaf-leaf-requires-clause-leaf
read_leaf-leaf-requires-clause-leaf c = slot_leaf _ c.args.aim c.requires.at_slot _ c.requires.leaf

-- the key has another value than it should
pub returns-then-not-meets : goal.returns-then-not-meets
returns-then-not-meets c = let seen = c.read_leaf-leaf.ensures.seen in
    let a = loads_asked _ _ c.args.aim.key c.args.update.value c.requires.asked.0 seen in record {
      tried = loads_tried c.requires.asked.0 seen refl (unmet_tried _ _ c.args.update.value _ seen.sound a);
      met = tt;
      missed = λ _. leaf_missed _ _ seen c.args.aim (slot_loads _ c.args.aim c.requires.at_slot _ seen) _ _ _
          c.requires.leaf c.read_leaf-leaf.ensures.published _ c.had_in.ensures.value
          (c.if-not-meets.ensures.missed refl);
    }

-- a put
pub returns-in-Some : goal.returns-in-Some
returns-in-Some c =
    let had = c.put_at.ensures.had in let met = rw c.had_in.ensures.value at (c.if-not-meets.ensures.met refl) in
    let t = loads_tried c.requires.asked.0 c.read_leaf-leaf.ensures.seen c.in-Some.is c.put_at.ensures.tried in
    record { tried = t; met = replied_met _ _ _ met had; missed = λ is. absurd (replied_unmissed _ _ had is) }

-- a remove
pub returns-in-None : goal.returns-in-None
returns-in-None c =
    let had = c.remove_at.ensures.had in let met = rw c.had_in.ensures.value at (c.if-not-meets.ensures.met refl) in
    let t = loads_tried c.requires.asked.0 c.read_leaf-leaf.ensures.seen c.in-None.is c.remove_at.ensures.tried in
    record { tried = t; met = replied_met _ _ _ met had; missed = λ is. absurd (replied_unmissed _ _ had is) }
