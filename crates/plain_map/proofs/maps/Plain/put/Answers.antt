use Rattle.std.proofs.Common.{sym, subst, arith}
use Rattle.std.proofs.lemmas.List.{get_or_default}
use Rattle.plain_map.specs.Rising.{IsRising}
use Rattle.plain_map.proofs.RisingLemmas.{no_pair}
use Rattle.plain_map.proofs.PlaceLemmas.{get_at, map_of-set, rising_set, get_in_gap, map_of-insert, rising_insert}
use Rattle.plain_map.proofs.maps.Plain.put.Goals as goal

-- the key was there, and its pair is written over
pub invariant_of-self : goal.invariant_of-self
invariant_of-self c = rising_set _ c.self.invariant _ _ (rw c.self.view_is c.in-Ok.ensures.found) _

pub returns-in-Ok-clause-reply : goal.returns-in-Ok-clause-reply
returns-in-Ok-clause-reply c =
    let value =
    get_at _ (subst IsRising c.self.view_is c.self.invariant) _ _ c.in-Ok.ensures.found in
    let read = get_or_default _ _ c.index.result.now no_pair c.in-Ok.ensures.found.within in
    grind (arith, c.self.view_is)

pub returns-in-Ok-clause-after : goal.returns-in-Ok-clause-after
returns-in-Ok-clause-after c = rw c.self.view_is
    (map_of-set _ (subst IsRising c.self.view_is c.self.invariant) _ _ c.in-Ok.ensures.found _)

-- the pair is added in the gap
pub invariant_of-self-in-Err : goal.invariant_of-self-in-Err
invariant_of-self-in-Err c = rw c.in_ok-insert-in-Err.ensures.items
    (rising_insert _ _ _ (rw c.self.view_is c.in-Err.ensures.absent) _ c.self.invariant)

pub returns-in_ok-insert-in-Err-clause-reply : goal.returns-in_ok-insert-in-Err-clause-reply
returns-in_ok-insert-in-Err-clause-reply c = sym (get_in_gap _ _ _ c.in-Err.ensures.absent)

pub returns-in_ok-insert-in-Err-clause-after : goal.returns-in_ok-insert-in-Err-clause-after
returns-in_ok-insert-in-Err-clause-after c =
    rw (c.in_ok-insert-in-Err.ensures.items, c.self.view_is)
    (map_of-insert _ _ _ c.in-Err.ensures.absent _)
