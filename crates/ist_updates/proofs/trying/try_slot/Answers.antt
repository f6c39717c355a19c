use Rattle.std.proofs.Common.{rules}
use Rattle.ist_updates.proofs.TriedWalkLemmas.{again_walk, tried_walk, unmissed_walk}
use Rattle.ist_updates.proofs.trying.try_slot.Goals as goal

-- the try is the walk
pub returns-in-Some-Leaf : goal.returns-in-Some-Leaf
returns-in-Some-Leaf c = let e = c.try_leaf.ensures in
    record { walk = tried_walk c.requires.asked.0 c.know.ensures.sound c.requires.at_slot e.tried e.met e.missed }

pub returns-in-Some-Change : goal.returns-in-Some-Change
returns-in-Some-Change c = let e = c.help_change.ensures in
    record { walk = again_walk c.requires.asked.0 c.know.ensures.sound c.requires.at_slot e.tried e.again }

pub returns-in-Some-Rebuild : goal.returns-in-Some-Rebuild
returns-in-Some-Rebuild c = let e = c.help_target.ensures in let s = c.know.ensures.sound in
    record { walk = unmissed_walk c.requires.asked.0 s c.requires.at_slot e.tried (e.met _) e.unmissed }

pub returns-in-Some-Empty : goal.returns-in-Some-Empty
returns-in-Some-Empty c = let e = c.try_empty.ensures in
    record { walk = tried_walk c.requires.asked.0 c.know.ensures.sound c.requires.at_slot e.tried e.met e.missed }

-- the word names a leaf, a change, a rebuild or nothing
pub returns-in-Some-Inner : goal.returns-in-Some-Inner
returns-in-Some-Inner c = absurd (search rules)

pub returns-in-Some-Unset : goal.returns-in-Some-Unset
returns-in-Some-Unset c = absurd (search rules)

pub returns-in-None : goal.returns-in-None
returns-in-None c = absurd (search rules)
