use Rattle.std.proofs.Common.{sym, subst, arith}
use Rattle.std.proofs.lemmas.List.{get_or_default}
use Rattle.plain_map.specs.Rising.{IsRising}
use Rattle.plain_map.proofs.RisingLemmas.{no_pair}
use Rattle.plain_map.proofs.PlaceLemmas.{get_at, map_of-remove, rising_remove, get_in_gap, map_of-absent}
use Rattle.plain_map.proofs.maps.Plain.remove.Goals as goal

-- the key was there, and its pair is taken out
pub invariant_of-self : goal.invariant_of-self
invariant_of-self c = rw c.remove.ensures.items
    (rising_remove _ c.self.invariant c.args.key _ (rw c.self.view_is c.in-Ok.ensures.found))

pub returns-in-Ok-clause-reply : goal.returns-in-Ok-clause-reply
returns-in-Ok-clause-reply c =
    let value =
    get_at _ (subst IsRising c.self.view_is c.self.invariant) _ _ c.in-Ok.ensures.found in
    let read = get_or_default _ _ c.remove.result no_pair c.in-Ok.ensures.found.within in
    grind (arith, c.self.view_is, c.remove.ensures.value)

pub returns-in-Ok-clause-after : goal.returns-in-Ok-clause-after
returns-in-Ok-clause-after c = rw (c.remove.ensures.items, c.self.view_is)
    (map_of-remove _ (subst IsRising c.self.view_is c.self.invariant) _ _ c.in-Ok.ensures.found)

-- the key was not there
pub returns-in-Err-clause-reply : goal.returns-in-Err-clause-reply
returns-in-Err-clause-reply c = sym (get_in_gap _ _ _ c.in-Err.ensures.absent)

pub returns-in-Err-clause-after : goal.returns-in-Err-clause-after
returns-in-Err-clause-after c = map_of-absent _ _ _ c.in-Err.ensures.absent
