use Rattle.std.proofs.Common.{rules, nat_lt, nat_le, drop, sym, ap, subst, ◌∙◌}
use Rattle.std.proofs.lemmas.List.{take_rest}
use Rattle.std.proofs.lemmas.List.Sorted.{IsPartitionPoint-from_clause}
use Rattle.ist_core.specs.TreeTerms.{pairs_between}
use Rattle.plain_map.proofs.RisingLemmas.{slice_between, below_first, up_to_first, rising_drop}
use Rattle.plain_map.proofs.PlaceLemmas.{pairs_of-map_of}
use Rattle.plain_map.specs.Rising.{IsRising}
use Rattle.plain_map.proofs.maps.Plain.list.Goals as goal

-- each closure tests the key, and both slices are of the map's pairs
pub returns-clause-between : goal.returns-clause-between
returns-clause-between c = let first = c.args.first in let last = c.args.last in
    let pairs = c.self.inside.pairs.items in let n = c.partition_point-from.result in
    let parted = rw (← c.deref.ensures.value) at (below_first pairs c.self.invariant first) in
    let from =
    IsPartitionPoint-from_clause
    (λ p. nat_lt p.key first) _ _ c.partition_point-from.ensures.partitioned
    parted (λ a r f called. search rules) in
    let rest =
    rw (← take_rest pairs n, ← c.deref-2.ensures.value) at
    (up_to_first (drop n pairs) (rising_drop pairs c.self.invariant n) last) in
    let count =
    IsPartitionPoint-from_clause
    (λ p. nat_le p.key last) _ _ c.partition_point-count.ensures.partitioned
    rest (λ a r f called. search rules) in
    rw (← c.self.view_is, c.deref-2.ensures.value, take_rest)
    (slice_between pairs first last n _ (rw c.deref.ensures.value at from)
    (rw (c.deref-2.ensures.value, take_rest) at count))

-- and the pairs are the map's
pub returns-clause-listed : goal.returns-clause-listed
returns-clause-listed c =
    let pairs_are = pairs_of-map_of _ (subst IsRising c.self.view_is c.self.invariant) in
    returns-clause-between c ∙ ap (pairs_between c.args.first c.args.last) (sym pairs_are)
