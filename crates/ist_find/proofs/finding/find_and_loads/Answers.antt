use Rattle.std.proofs.Common.{[], ap, arith, rules}
use Rattle.ist_layout.specs.Meanings.{ref_meant}
use Rattle.ist_find.proofs.SearchLemmas.{begun_comes}
use Rattle.ist_find.proofs.EdgeLemmas.{fewer_left, search_begins, search_came, search_rises, search_goes_on, search_ends}
use Rattle.ist_find.proofs.finding.find_and_loads.Goals as goal

-- the search begins at the anchor
pub look_at-look-requires-clause-come : goal.look_at-look-requires-clause-come
look_at-look-requires-clause-come c = (([], begun_comes _ _ c.args.key c.begin_search.ensures.begun), search rules)

pub loop-look-init : goal.loop-look-init
loop-look-init c = search_begins _ _ _ c.begin_search.ensures.begun _ _ _ _ c.look_at-look.ensures.looked

-- it has reached the row that it read
pub look_at-look-requires-in-Inner-clause-come : goal.look_at-look-requires-in-Inner-clause-come
look_at-look-requires-in-Inner-clause-come c =
    (search_came _ _ _ _ _ _ _ c.loop-look.invariant _ (ap ref_meant c.in-Inner.is), search rules)

pub look_at-look-requires-in-Inner-clause-top : goal.look_at-look-requires-in-Inner-clause-top
look_at-look-requires-in-Inner-clause-top c is =
    absurd ((search_rises _ _ _ _ _ _ _ c.loop-look.invariant _ (ap ref_meant c.in-Inner.is)).below_anchor is)

-- which lies above the last one, and within the table
pub loop-look-smaller : goal.loop-look-smaller
loop-look-smaller c =
    fewer_left (search_rises _ _ _ _ _ _ _ c.loop-look.invariant _ (ap ref_meant c.in-Inner.is))
    c.look_at-look-in-Inner.ensures.looked.seen

pub loop-look-preserved : goal.loop-look-preserved
loop-look-preserved c =
    search_goes_on _ _ _ _ _ _ _ c.loop-look.invariant _ (ap ref_meant c.in-Inner.is) _ _ _ _
    c.look_at-look-in-Inner.ensures.looked

-- what was found
pub returns : goal.returns
returns c = let value = c.value_in-value.ensures in
    let e = search_ends _ _ _ _ _ _ _ c.loop-look.invariant _ _ c.know-2.ensures.sound value.value (omega arith) in
    record { seen = e.0; value = e.1; found = e.2; linked = e.3; index = e.4; loads = e.5; counted = omega arith }
