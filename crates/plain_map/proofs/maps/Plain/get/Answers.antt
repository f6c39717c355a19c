use Rattle.std.proofs.Common.{sym, subst, arith}
use Rattle.std.proofs.lemmas.List.{get_or_default}
use Rattle.plain_map.specs.Rising.{IsRising}
use Rattle.plain_map.proofs.RisingLemmas.{no_pair}
use Rattle.plain_map.proofs.PlaceLemmas.{get_at, get_in_gap}
use Rattle.plain_map.proofs.maps.Plain.get.Goals as goal

-- the key is at its place, and the pair there is the one that was read
pub returns-in-Ok : goal.returns-in-Ok
returns-in-Ok c =
    let value =
    get_at _ (subst IsRising c.self.view_is c.self.invariant) _ _ c.in-Ok.ensures.found in
    let read = get_or_default _ _ c.index.result.now no_pair c.in-Ok.ensures.found.within in
    grind (arith, c.self.view_is)

-- the key is not there
pub returns-in-Err : goal.returns-in-Err
returns-in-Err c = sym (get_in_gap _ _ _ c.in-Err.ensures.absent)
