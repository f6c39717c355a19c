use Rattle.std.proofs.Common.{sym, subst}
use Rattle.plain_map.specs.Rising.{IsRising}
use Rattle.plain_map.proofs.PlaceLemmas.{pairs_of-map_of}
use Rattle.plain_map.proofs.maps.Plain.pairs.Goals as goal

-- the keys of the list are strictly increasing, so it is the list of its map
pub returns-clause-of_map : goal.returns-clause-of_map
returns-clause-of_map c = sym (pairs_of-map_of _ (subst IsRising c.self.view_is c.self.invariant))
